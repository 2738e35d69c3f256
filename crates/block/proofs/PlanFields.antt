-- What an accepted profile and its plan say of one block: the plan's fields, and the coded word that they are used for.
use mathlib.Core.Path.{◌≡◌, ap, ◌∙◌, subst}
use mathlib.Core.List.{List}
use Prim.Native.Nat.{ℕ, ◌+◌, ◌*◌, ◌≤◌, ◌<◌}
use native.Mathlib.Nat.{add-mul, le-mul_of_pos_right, mul_comm}
use native.Mathlib.Omega.{arith}
use lib.ListN.{length, take, drop}
use Rattle.bits.specs.Bits.{AreBits, with_filler}
use Rattle.bits.proofs.Lists.{bits-take, bits-drop, length_part}
use Rattle.bits.proofs.Filler.{length-filled}
use Rattle.profile.specs.Record.{kb, m, rows, columns, table}
use Rattle.profile.proofs.Shape.{columns_is}
use Rattle.cutting.specs.Plan.{size_index}
use Rattle.cutting.specs.Cutting.{with_sum}
use Rattle.cutting.specs.declared.Plan.{Plan}
use Rattle.cutting.proofs.PlanFields.{PlanFields, places-product, plan-sum}
use Rattle.cutting.proofs.Summed.{length-with-sum, with-sum-bits}
use Rattle.parity.specs.Coded.{coded}
use Rattle.parity.specs.Steps.Grouped.{Shape, Codable, Solution}
use Rattle.parity.proofs.Rows.{Solvable}
use Rattle.parity.proofs.Ready.{table-shape, table-stairs, table-codable}
use Rattle.parity.proofs.Coded.{solved-coded}
use Rattle.matching.specs.Steps.Places.{Filled}
use Rattle.matching.proofs.Stretch.{word-filled}

-- ---- its table and its sizes

module _ (R : List ℕ) {ed : ℕ} (p : Plan) (k : PlanFields R ed p) where
  pub shape_here : Shape (table R p.index) (rows R) (columns R) p.z
  shape_here = rw (k.z_is, k.index_is) (table-shape R k.accepted (size_index R ed p.bits) k.cut.size)

  pub stairs_here : Solvable (table R p.index) (kb R) (m R) (rows R) (columns R)
  stairs_here = rw k.index_is (table-stairs R k.accepted (size_index R ed p.bits) k.cut.size)

  pub codable_here : (w : List ℕ) → length w ≡ columns R * p.z → Codable (table R p.index) (kb R) (m R) (rows R) (columns R) p.z w
  codable_here w long = rw (k.z_is, k.index_is) (table-codable R k.accepted (size_index R ed p.bits) k.cut.size w (rw k.z_is at long))

  -- the coded block is longer than its systematic places
  pub word_room : p.places < columns R * p.z
  word_room =
      let more : p.z ≤ p.z * rows R = le-mul_of_pos_right p.z (omega (arith, k.cut.known.rows_low)) in
      let wide : columns R * p.z ≡ (kb R + rows R) * p.z = ap (λ (n : ℕ). n * p.z) (columns_is R) in
      omega (arith, places-product R p k, wide, add-mul (kb R) (rows R) p.z, mul_comm p.z (rows R), more, shape_here.z_some)

-- ---- the coded word of one block

module _ (R bits : List ℕ) {ed : ℕ} (p : Plan) (k : PlanFields R ed p) (single : AreBits bits) (start own : ℕ) (h : own + p.sums ≤ p.places)
    (l : start + own ≤ length bits) (w : List ℕ)
    (s : Solution (table R p.index) (kb R) (m R) (rows R) (columns R) p.z (with_filler p.places (with_sum p.sums (take own (drop start bits)))) w) where
  carried : List ℕ
  carried = with_sum p.sums (take own (drop start bits))

  carried-length : length carried ≡ own + p.sums
  unfolding carried
  carried-length =
      length-with-sum p.sums (take own (drop start bits)) (plan-sum R p k) ∙ ap (λ (n : ℕ). n + p.sums) (length_part own start bits l)

  carried-bits : AreBits carried
  unfolding carried
  carried-bits = with-sum-bits p.sums (take own (drop start bits)) (bits-take own (drop start bits) (bits-drop start bits single))

  sys : List ℕ
  sys = with_filler p.places carried

  sys-length : length sys ≡ kb R * p.z
  unfolding sys
  sys-length = length-filled p.places carried (omega (arith, carried-length)) ∙ places-product R p k

  -- it is the coded block
  pub word-coded : w ≡ coded (table R p.index) (rows R) (columns R) p.z (with_filler p.places (with_sum p.sums (take own (drop start bits))))
  unfolding sys carried
  word-coded = solved-coded (table R p.index) (rows R) (columns R) p.z sys (kb R) sys-length (stairs_here R p k) w s

  -- its filler lies between its carried bits and its parity bits
  pub word-filler : Filled w (own + p.sums) p.places
  unfolding carried
  word-filler =
      let product = places-product R p k in
      subst (λ (n : ℕ). Filled w n p.places) carried-length
      (word-filled carried p.places carried-bits (omega (arith, carried-length)) w
      (omega (arith, word_room R p k, s.size)) (λ q u. s.front q (omega arith)) (λ q u. s.bits q (omega arith)))
