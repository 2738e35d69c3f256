-- What the two calls answer, in C's form: "Where an answer is an enum, a definition gives this paper's number and values for each case of the enum"; 0 is the
-- number of no rule.
use Rattle.std.specs.Prelude.{Option, Some, None, ℕ}
use Rattle.rules.specs.declared.shelf_rule.Rule as shelf
use Rattle.rules.specs.declared.shelf_rule.Rule.TheVariants as s
use Rattle.rules.specs.declared.record_rule.Rule as profile
use Rattle.rules.specs.declared.record_rule.Rule.TheVariants as r
use Rattle.rules.specs.declared.ShelfFault.{ShelfFault}
use Rattle.rules.specs.declared.RecordFault.{RecordFault}
use Rattle.rules.specs.declared.Broken.{Broken}
use Rattle.rules.specs.declared.Wrong.{Wrong}

abbrev pub shelf_number : shelf.Rule → ℕ
shelf_number s.NoCount = 1
shelf_number s.Count = 2
shelf_number s.EntriesCut = 3
shelf_number s.Pairs = 4
shelf_number s.FirstOffset = 5
shelf_number s.NextOffset = 6
shelf_number s.End = 7
shelf_number s.Size = 8
shelf_number s.Tenant = 9

abbrev pub record_number : profile.Rule → ℕ
record_number r.NoHeader = 1
record_number r.Kb = 2
record_number r.M = 3
record_number r.X = 4
record_number r.Rows = 5
record_number r.Type = 6
record_number r.Type1Extended = 7
record_number r.T = 8
record_number r.PairsCut = 9
record_number r.Z = 10
record_number r.ZRising = 11
record_number r.FirstOffset = 12
record_number r.NextOffset = 13
record_number r.End = 14
record_number r.Entry = 15
record_number r.TopEmpty = 16
record_number r.LastEmpty = 17
record_number r.Between = 18
record_number r.Outer = 19
record_number r.Middle = 20
record_number r.Column = 21
record_number r.RowExtended = 22
record_number r.OwnColumn = 23
record_number r.LaterColumn = 24

abbrev pub broken : Option ShelfFault → Broken
broken (Some f) = record { rule = shelf_number f.rule; entry = f.entry; at = f.at }
broken None = record { rule = 0; entry = 0; at = 0 }

abbrev pub wrong : Option RecordFault → Wrong
wrong (Some f) = record { rule = record_number f.rule; table = f.table; row = f.row; column = f.column; at = f.at }
wrong None = record { rule = 0; table = 0; row = 0; column = 0; at = 0 }
