-- What is shown of an alarm, said by what an operator reads from it.
use Rattle.std.specs.Prelude.{◌≡◌, ℕ, ◌+◌, List, Bool, true, false, not, ◌&&◌, is_some, take, if◌then◌else◌}
use Rattle.alm_types.specs.declared.alarm_row.AlarmRow.{AlarmRow}
use Rattle.alm_types.specs.declared.attr.Attr.{Attr}
use Rattle.alm_types.specs.declared.shown.Shown.{Shown}
use Rattle.alm_types.specs.declared.shown.Shown.TheVariants.{OutOfService, ByDesign, Shelved, Unack, Acked, RtnUnack, LatchUnack, LatchAcked}
use Rattle.alm_state.specs.Rows.{State, is_annunciated, is_active_core}
use Rattle.alm_laws.specs.Alarm.{is_unacknowledged, is_latched}

abbrev pub is_shown_oos : Shown → Bool
is_shown_oos OutOfService = true
is_shown_oos _ = false

abbrev pub is_shown_by_design : Shown → Bool
is_shown_by_design ByDesign = true
is_shown_by_design _ = false

abbrev pub is_shown_shelved : Shown → Bool
is_shown_shelved Shelved = true
is_shown_shelved _ = false

-- shown as one that asks for the operator
abbrev pub is_shown_annunciated : Shown → Bool
is_shown_annunciated Unack = true
is_shown_annunciated Acked = true
is_shown_annunciated RtnUnack = true
is_shown_annunciated LatchUnack = true
is_shown_annunciated LatchAcked = true
is_shown_annunciated _ = false

abbrev pub is_shown_active : Shown → Bool
is_shown_active Unack = true
is_shown_active Acked = true
is_shown_active _ = false

abbrev pub is_shown_unacknowledged : Shown → Bool
is_shown_unacknowledged Unack = true
is_shown_unacknowledged RtnUnack = true
is_shown_unacknowledged LatchUnack = true
is_shown_unacknowledged _ = false

abbrev pub is_shown_latched : Shown → Bool
is_shown_latched LatchUnack = true
is_shown_latched LatchAcked = true
is_shown_latched _ = false

-- no flag is set
abbrev pub has_no_flag : State → Bool
has_no_flag s = not s.out_of_service && not s.by_design && not (is_some s.shelved_until)

-- out of service comes before by design, and by design before shelved; without a flag the alarm is shown as it is
pub record IsShownAsItIs (s : State) (x : Shown) : Type 0 where
  pub out_of_service : is_shown_oos x ≡ s.out_of_service
  pub by_design : is_shown_by_design x ≡ (not s.out_of_service && s.by_design)
  pub shelved : is_shown_shelved x ≡ (not s.out_of_service && not s.by_design && is_some s.shelved_until)
  pub annunciated : is_shown_annunciated x ≡ (has_no_flag s && is_annunciated s.core)
  pub active : is_shown_active x ≡ (has_no_flag s && is_active_core s.core)
  pub unacknowledged : is_shown_unacknowledged x ≡ (has_no_flag s && is_unacknowledged s.core)
  pub latched : is_shown_latched x ≡ (has_no_flag s && is_latched s.core)

-- the flags as a number: 1 for shelved, 2 for by design, 4 for out of service, added
abbrev pub flags_shown : State → ℕ
flags_shown s = (if is_some s.shelved_until then 1 else 0) + (if s.by_design then 2 else 0) + (if s.out_of_service then 4 else 0)

-- the row of an alarm that is shown so, with its attributes and the moments of its annunciations, the latest first
abbrev pub row_shown : State → Attr → List ℕ → Shown → AlarmRow
row_shown s a moments shown = record {
  shown = shown;
  active = s.active;
  flags = flags_shown s;
  until = s.shelved_until;
  stamp = s.stamp;
  priority = a.priority;
  setpoint = a.setpoint;
  moments = take 3 moments;
}
