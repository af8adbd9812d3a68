-- What the queries report.
use Rattle.std.proofs.Common.{◌≡◌, ℕ, ◌<◌, ◌≤◌, Bool, false, ◌&&◌, List, length, Option, Some, None, Ok, Err, sum, refl, ap, ◌∙◌, arith, inl, inr, ◌⊎◌}
use Rattle.std.specs.Prelude.{slice_get, nat_le, nat_lt}
use Rattle.std.proofs.lemmas.Bool.Decides.{nat_tests}
use Rattle.alm_types.specs.declared.alarm_id.AlarmId.{AlarmId}
use Rattle.alm_types.specs.declared.attr.Attr.{Attr}
use Rattle.alm_types.specs.declared.query.Query.TheVariants as query
use Rattle.alm_types.specs.declared.refusal.Refusal.TheVariants.{NoSuchAlarm, NoSuchList}
use Rattle.alm_types.specs.Reports.{flood, attributes, row}
use Rattle.alm_state.specs.Rows.{State}
use Rattle.alm_state.specs.Showing.{shown_of}
use Rattle.alm_model.specs.Plant.{Condensed}
use Rattle.alm_model.specs.Look.{look, state_report, flood_report, attributes_report, row_report, row_of}
use Rattle.alm_model.specs.Lists.{moments_in}
use Rattle.alm_laws.specs.Shown.{row_shown}

pub flood-reported : (q : Condensed) (area : ℕ) (ages : List ℕ) (on : Bool) → slice_get q.kept.ages area ≡ Some ages → slice_get q.floods area ≡ Some on → look q (query.Flood area) ≡ Ok (flood (sum ages) on)
flood-reported q area ages on e f = ap (λ o. flood_report o (slice_get q.floods area)) e ∙ ap (flood_report (Some ages)) f

pub attributes-reported : (q : Condensed) (i : AlarmId) (a : Attr) → slice_get q.panel.attrs i.0 ≡ Some a → look q (query.Attributes i) ≡ Ok (attributes (Some a))
attributes-reported q i a e = ap attributes_report e

row-shown : (o : Option State) (p : Option Attr) (m : Option (List ℕ)) (s : State) (a : Attr) (moments : List ℕ) → o ≡ Some s → p ≡ Some a → m ≡ Some moments
    → row_report o p (moments_in m) ≡ Ok (row (Some (row_of s a moments)))
row-shown o p m s a moments e f g = rw (e, f, g) refl

pub row-reported : (q : Condensed) (i : AlarmId) (s : State) (a : Attr) (moments : List ℕ) → slice_get q.panel.rows i.0 ≡ Some s → slice_get q.panel.attrs i.0 ≡ Some a
    → slice_get q.kept.moments i.0 ≡ Some moments
    → look q (query.Row i) ≡ Ok (row (Some (row_shown s a moments (shown_of s))))
row-reported q i s a moments e f g = row-shown _ _ _ s a moments e f g

pub row-refused : (q : Condensed) (i : AlarmId) → slice_get q.panel.rows i.0 ≡ None → look q (query.Row i) ≡ Err NoSuchAlarm
row-refused q i e = ap (λ o. row_report o (slice_get q.panel.attrs i.0) (moments_in (slice_get q.kept.moments i.0))) e

pub state-refused : (q : Condensed) (i : AlarmId) → slice_get q.panel.rows i.0 ≡ None → look q (query.State i) ≡ Err NoSuchAlarm
state-refused q i e = ap state_report e

pub attributes-refused : (q : Condensed) (i : AlarmId) → slice_get q.panel.attrs i.0 ≡ None → look q (query.Attributes i) ≡ Err NoSuchAlarm
attributes-refused q i e = ap attributes_report e

no-flag : (o : Option (List ℕ)) → flood_report o None ≡ Err NoSuchList
no-flag None = refl
no-flag (Some ages) = refl

pub flood-refused : (q : Condensed) (n : ℕ) → slice_get q.floods n ≡ None → look q (query.Flood n) ≡ Err NoSuchList
flood-refused q n e = ap (flood_report (slice_get q.kept.ages n)) e ∙ no-flag (slice_get q.kept.ages n)

no-priority : (n : ℕ) → (n ≡ 0) ⊎ (4 < n) → (nat_le 1 n && nat_le n 4) ≡ false
no-priority n (inl e) = grind (arith, nat_tests)
no-priority n (inr l) = grind (arith, nat_tests)

none-below : (n limit : ℕ) → limit ≤ n → nat_lt n limit ≡ false
none-below n limit l = grind (arith, nat_tests)

pub list-refused : (q : Condensed) (n : ℕ)
    → ((n ≡ 0) ⊎ (4 < n) → look q (query.Priority n) ≡ Err NoSuchList) × (length q.floods ≤ n → look q (query.Area n) ≡ Err NoSuchList) × (256 ≤ n → look q (query.Wheel n) ≡ Err NoSuchList)
list-refused q n = (λ h. rw (no-priority n h) refl, λ l. rw (none-below n (length q.floods) l) refl, λ l. rw (none-below n 256 l) refl)
