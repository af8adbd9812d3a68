-- What a batch holds.
use Rattle.std.specs.Prelude.{ℕ, List}
use Rattle.alm_types.specs.declared.entry.Entry.{Entry}

-- the number of its first accepted action, and the requests as they were judged
pub record Judged : Type 0 where
  pub first : ℕ
  pub entries : List Entry
