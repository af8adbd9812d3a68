-- What is shown of an alarm.
use Rattle.std.specs.Prelude.{ℕ, ◌+◌, Bool, is_some, if◌then◌else◌}
use Rattle.alm_types.specs.declared.shown.Shown.{Shown}
use Rattle.alm_types.specs.declared.shown.Shown.TheVariants as shown
use Rattle.alm_types.specs.Reports.{Report, alarm}
use Rattle.alm_state.specs.declared.core_state.Core.{Core}
use Rattle.alm_state.specs.declared.core_state.Core.TheVariants.{Normal, Unack, Acked, RtnUnack, LatchUnack, LatchAcked}
use Rattle.alm_state.specs.Rows.{State}

abbrev pub shown_core : Core → Shown
shown_core Normal = shown.Normal
shown_core Unack = shown.Unack
shown_core Acked = shown.Acked
shown_core RtnUnack = shown.RtnUnack
shown_core LatchUnack = shown.LatchUnack
shown_core LatchAcked = shown.LatchAcked

-- the first flag that is set, else the core state
abbrev pub shown_of : State → Shown
shown_of s = if s.out_of_service then shown.OutOfService else if s.by_design then shown.ByDesign else if is_some s.shelved_until then shown.Shelved else shown_core s.core

abbrev pub weight : ℕ → Bool → ℕ
weight n flag = if flag then n else 0

-- 1 shelved, 2 by design, 4 out of service, added
abbrev pub flags_of : State → ℕ
flags_of s = weight 1 (is_some s.shelved_until) + weight 2 s.by_design + weight 4 s.out_of_service

-- what is reported of an alarm
abbrev pub report_of : State → Report
report_of s = alarm (shown_of s) s.active (flags_of s) s.shelved_until
