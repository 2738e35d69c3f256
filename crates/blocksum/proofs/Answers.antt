-- What the public call answers, by its test.
use mathlib.Core.Path.{◌≡◌, refl, sym, ◌∙◌}
use mathlib.Core.Bool.{true, false}
use mathlib.Core.List.{List, [], ◌∷◌}
use Prim.Native.Nat.{ℕ}
use native.Mathlib.Omega.{arith}
use Rattle.bits.specs.Bits.{some_over}
use Rattle.bits.specs.Numbers.{answered}
use Rattle.bits.proofs.Answers.{applies, passes, none_left, when-done, when_refused}
use Rattle.checksum.specs.Crc.{checksum}
use Rattle.blocksum.specs.Blocksum.{gen24_b}
use Rattle.blocksum.specs.Promises.{block_bits_number, OfBlockBits}

module _ (bits : List ℕ) where
  pub block_bits_refused : some_over 1 bits ≡ true → OfBlockBits bits (record { number = 12; value = 0 })
  unfolding block_bits_number
  block_bits_refused over =
      let n : answered ((12, some_over 1 bits) ∷ []) ≡ 12 = applies 12 [] over in
      record { number = sym n; value = rw n (sym (when_refused 12 _ 0 (λ z. omega arith))) }

  pub block_bits_summed : some_over 1 bits ≡ false → (v : ℕ) → v ≡ checksum 24 gen24_b bits → OfBlockBits bits (record { number = 0; value = v })
  unfolding block_bits_number
  block_bits_summed over v e =
      let n : answered ((12, some_over 1 bits) ∷ []) ≡ 0 = passes 12 [] over ∙ none_left in
      record { number = sym n; value = rw n (e ∙ sym (when-done 0 _ 0 refl)) }
