-- What the steps of one code block promise each other. R is the profile's record and p the plan of its blocks.
use Rattle.std.specs.Prelude.{◌≡◌, Bool, true, ◌&&◌, List, ℕ, ◌+◌, ◌-◌, ◌*◌, ◌≤◌, length, take, drop}
use Rattle.bits.specs.Bits.{AreBits, same, with_filler}
use Rattle.profile.specs.Record.{kb, m, rows, columns, table}
use Rattle.cutting.specs.declared.Plan.{Plan}
use Rattle.cutting.specs.Cutting.{with_sum}
use Rattle.cutting.specs.Steps.Plans.{SomePlan, Ready, sum_holds}
use Rattle.parity.specs.Matrix.{checks}
use Rattle.parity.specs.Coded.{coded}
use Rattle.parity.specs.Steps.Grouped.{Solution}
use Rattle.matching.specs.Matching.{matched, turned}
use Rattle.matching.specs.Steps.Line.{heard}

-- ---- by the plan's table and z

-- how many places a coded word has; a word has so many
abbrev pub word_size : List ℕ → Plan → ℕ
word_size R p = columns R * p.z

abbrev pub Fits : List ℕ → Plan → List ℕ → Type 0
Fits R p w = length w ≡ word_size R p

abbrev pub checks_by : List ℕ → Plan → List ℕ → Bool
checks_by R p w = checks (table R p.index) (rows R) (columns R) p.z w

abbrev pub coded_by : List ℕ → Plan → List ℕ → List ℕ
coded_by R p sys = coded (table R p.index) (rows R) (columns R) p.z sys

abbrev pub SolvedBy : List ℕ → Plan → List ℕ → List ℕ → Type 0
SolvedBy R p sys w = Solution (table R p.index) (kb R) (m R) (rows R) (columns R) p.z sys w

-- a block's places: its own bits, which stand from `start` on, their checksum where there is one, and filler
abbrev pub cut_places : Plan → List ℕ → ℕ → ℕ → List ℕ
cut_places p bits start own = with_filler p.places (with_sum p.sums (take own (drop start bits)))

-- its coded block
abbrev pub cut_coded : List ℕ → Plan → List ℕ → ℕ → ℕ → List ℕ
cut_coded R p bits start own = coded_by R p (cut_places p bits start own)

-- ---- a block that is to be coded in `word`

pub record Codable (R : List ℕ) (p : Plan) (bits : List ℕ) (start own : ℕ) (word : List ℕ) : Type 0 where
  pub edition : ℕ
  pub ready : Ready R edition bits p
  pub carried_fits : own + p.sums ≤ p.places
  pub inside : start + own ≤ length bits
  pub fits : Fits R p word

-- ---- a stretch that was sent from the place `from`, and is to be tested in `word`

-- it has so many carried bits
pub record Stretch (R : List ℕ) (p : Plan) (s : List ℕ) (carried from : ℕ) (word : List ℕ) : Type 0 where
  pub some : SomePlan R p
  pub carried_fits : carried ≤ p.places
  pub starts : from ≤ length word
  pub fits : Fits R p word
  pub room : carried + (length word - p.places) ≤ length s
  pub single : AreBits s

-- s is what the block with the systematic places sys is sent as
unfoldable pub block_sent_as : List ℕ → ℕ → ℕ → ℕ → ℕ → List ℕ → List ℕ → Bool
block_sent_as T rows columns z from sys s = same (matched (turned from (coded T rows columns z sys)) (length s)) s

abbrev pub sent_by : List ℕ → Plan → ℕ → List ℕ → List ℕ → Bool
sent_by R p from sys s = block_sent_as (table R p.index) (rows R) (columns R) p.z from sys s

-- its carried bits: once its first bits are in line, as if they had been sent from the first place, they stand in front of the parity bits
abbrev pub carried_by : List ℕ → Plan → ℕ → ℕ → List ℕ → List ℕ
carried_by R p carried from s = take carried (heard carried p.places from (word_size R p) s)

-- the stretch was tested as what its block is sent as; where it is, the carried bits stand in front of the word
pub record Tested (R : List ℕ) (p : Plan) (s : List ℕ) (carried from : ℕ) (r : Bool) (word : List ℕ) : Type 0 where
  pub is : r ≡ sent_by R p from (with_filler p.places (carried_by R p carried from s)) s
  pub front : r ≡ true → take carried word ≡ carried_by R p carried from s

-- and their checksum with it; where it holds, the own bits stand in front of the word
pub record Received (R : List ℕ) (p : Plan) (s : List ℕ) (own from : ℕ) (r : Bool) (word : List ℕ) : Type 0 where
  pub is : r
      ≡ sent_by R p from (with_filler p.places (carried_by R p (own + p.sums) from s)) s && sum_holds p.sums (carried_by R p (own + p.sums) from s)
  pub front : r ≡ true → take own word ≡ take own (carried_by R p (own + p.sums) from s)
