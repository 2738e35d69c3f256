-- The transport bits of a block, a plan that goes with them, and the block from its transport bits.
use mathlib.Core.Path.{◌≡◌, refl, sym, ap, ◌∙◌}
use mathlib.Core.Bool.{true}
use mathlib.Core.List.{List}
use Prim.Native.Nat.{ℕ, ◌+◌, ◌-◌, ◌*◌, ◌≤◌}
use native.Mathlib.Omega.{arith}
use lib.Dec.{lit<, lit≤}
use lib.ListN.{length, take, drop, length-append, take-append-drop}
use lib.Seq.{sets, sets-eq, take_at, length-take-le}
use Rattle.bits.specs.Bits.{AreBits, AreOctets, digits, unpacked, packed}
use Rattle.bits.proofs.Lists.{bits-append, bits-take}
use Rattle.bits.proofs.Digits.{length_digits, digits-bits}
use Rattle.bits.proofs.Octets.{length-unpacked, length-packed, unpacked-bits, packed-front, packed-unpacked, unpacked-packed}
use Rattle.checksum.specs.Crc.{attached, checksum, gen24_a}
use Rattle.checksum.specs.Promises.{generator}
use Rattle.checksum.specs.Steps.Register.{Generator}
use Rattle.checksum.proofs.Attachment.{checks_sound, checks-complete}
use Rattle.cutting.specs.Plan.{block_bits}
use Rattle.cutting.specs.Transport.{transport}
use Rattle.cutting.specs.Promises.{plan_number, done_plan, planned}
use Rattle.cutting.specs.declared.Plan.{Plan}
use Rattle.cutting.specs.Steps.Plans.{Ready, checked}
use Rattle.cutting.proofs.PlanFields.{bits_is}

pub generator_24 : Generator 24 gen24_a
generator_24 = record { some = lit< tt; most = lit≤ tt; below = lit< tt }

-- the generator of step 1 is that of its width
pub own_24 : generator 24 ≡ gen24_a
unfolding generator
own_24 = refl

pub length-transport : (block : List ℕ) → length (transport block) ≡ block_bits (length block)
unfolding transport attached block_bits
length-transport block =
    length-append (unpacked block) (digits 24 (checksum 24 gen24_a (unpacked block)))
    ∙ omega (arith, length-unpacked block, length_digits 24 (checksum 24 gen24_a (unpacked block)))

pub transport-bits : (block : List ℕ) → AreBits (transport block)
unfolding transport attached
transport-bits block = bits-append (unpacked block) _ (unpacked-bits block) (digits-bits 24 (checksum 24 gen24_a (unpacked block)))

-- a list that was written over the front of a longer one
pub front-set : (l vs : List ℕ) (n : ℕ) → length vs ≡ n → n ≤ length l → take n (sets l 0 vs) ≡ vs
front-set l vs n e h =
    let room : 0 + length vs ≤ length l = omega arith in
    ap (take n) (sets-eq vs l 0 room) ∙ take_at vs (drop (0 + length vs) l) n e

-- octets that were packed over the front of a longer list
pub packed-over : (l u : List ℕ) (octets : ℕ) → octets ≤ length l → take octets (sets l 0 (packed octets u)) ≡ packed octets u
packed-over l u octets h = front-set l (packed octets u) octets (length-packed octets u) h

pub ready-transport : (R : List ℕ) (ed : ℕ) (block : List ℕ) (p : Plan) → plan_number R ed (length block) ≡ 0 → done_plan p ≡ planned R ed (length block)
    → Ready R ed (transport block) p
ready-transport R ed block p e plan =
    record {
      of = record { octets = length block; taken = e; plan = plan };
      size = length-transport block ∙ sym (bits_is R ed (length block) p plan e);
      single = transport-bits block;
    }

-- ---- a block from its transport bits

pub packed-transport : (block : List ℕ) → AreOctets block → packed (length block) (transport block) ≡ block
unfolding transport attached
packed-transport block whole = packed-front (length block) (unpacked block) _ (length-unpacked block) ∙ packed-unpacked block whole

-- the octets of transport bits are the bits before the last 24, packed
pub unpacked-before : (octets : ℕ) (u : List ℕ) → length u ≡ block_bits octets → AreBits u → unpacked (packed octets u) ≡ take (length u - 24) u
unfolding block_bits
unpacked-before octets u size single =
    let n : 8 * octets ≡ length u - 24 = omega arith in
    let p = take (8 * octets) u in
    let long : length p ≡ 8 * octets = length-take-le (8 * octets) u (omega arith) in
    let there : packed octets u ≡ packed octets p = ap (packed octets) (sym (take-append-drop (8 * octets) u)) ∙ packed-front octets p (drop (8 * octets) u) long in
    ap unpacked there ∙ unpacked-packed octets p (bits-take (8 * octets) u single) long ∙ ap (λ (k : ℕ). take k u) n

-- bits with their checksum are those of their octets
pub transport-packed : (octets : ℕ) (u : List ℕ) → length u ≡ block_bits octets → AreBits u → checked u ≡ true
    → transport (packed octets u) ≡ u
unfolding transport block_bits checked
transport-packed octets u size single e =
    ap (attached 24 gen24_a) (unpacked-before octets u size single) ∙ sym (checks_sound 24 gen24_a u single (omega arith) e)

pub transport-checked : (block : List ℕ) → checked (transport block) ≡ true
unfolding transport checked
transport-checked block = checks-complete 24 gen24_a generator_24.below (unpacked block)
