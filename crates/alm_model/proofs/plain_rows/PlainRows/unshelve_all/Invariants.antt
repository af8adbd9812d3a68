use Rattle.std.proofs.Common.{◌≡◌, ◌+◌, ◌-◌, ◌*◌, ◌≤◌, length, drop}
use Rattle.std.specs.Prelude.{fold}
use Rattle.alm_model.specs.Step.{unshelve}
use Rattle.alm_model.specs.Keeping.{in_brief}
use Rattle.alm_model.proofs.plain_rows.PlainRows.unshelve_all.Given as goal

-- ending the rest from here ends all from the beginning
abbrev pub invariant-loop-number : goal.invariant-loop-number
invariant-loop-number l = record {
  rows : length l.self.panel.rows ≡ length l.fn.self.panel.rows;
  count : l.self.panel.count ≡ l.fn.self.panel.count;
  stamps : l.self.panel.next_stamp + (length l.numbers - l.number-index) ≤ 1 + 16384 * l.fn.self.panel.count;
  rest : fold (unshelve in_brief) l.self (drop l.number-index l.numbers) ≡ fold (unshelve in_brief) l.fn.self l.numbers;
}
