use Rattle.std.proofs.Common.{◌≡◌, ◌<◌, ◌≤◌, ℕ, length}
use Rattle.alm_wake.specs.Wakings.{is_late, may_sleep}
use Rattle.alm_wake.proofs.flusher_pace.FlusherPace.answer.Given as goal

abbrev pub invariant-loop-number : goal.invariant-loop-number
invariant-loop-number g l = record {
  others : l.self ≡ record l.fn.self {
    waking = record l.fn.self.waking { late = l.self.waking.late };
  };
  long : length l.self.waking.late ≡ 18;
  late : (s : ℕ) → s < l.number → is_late l.self.waking s ≡ may_sleep l.fn.self.waking s;
  left : (s : ℕ) → l.number ≤ s → is_late l.self.waking s ≡ is_late l.fn.self.waking s;
}
