-- What is shown of an alarm, by seven questions.
use Rattle.std.proofs.Common.{◌≡◌, ℕ, Bool, true, false, Option, Some, None, Ok, refl, sym, ap, ◌∙◌, subst}
use Rattle.std.specs.Prelude.{◌↔◌, slice_get}
use Rattle.alm_types.specs.declared.alarm_id.AlarmId.{AlarmId}
use Rattle.alm_types.specs.declared.query.Query.TheVariants.{State as StateOf}
use Rattle.alm_types.specs.declared.shown.Shown.{Shown}
use Rattle.alm_types.specs.declared.shown.Shown.TheVariants as shown
use Rattle.alm_types.specs.Reports.{alarm}
use Rattle.alm_state.specs.Rows.{State}
use Rattle.alm_state.specs.Showing.{shown_of}
use Rattle.alm_state.specs.declared.core_state.Core.{Core}
use Rattle.alm_state.specs.declared.core_state.Core.TheVariants.{Normal, Unack, Acked, RtnUnack, LatchUnack, LatchAcked}
use Rattle.alm_model.specs.Plant.{Condensed}
use Rattle.alm_model.specs.Look.{look, state_report}
use Rattle.alm_laws.specs.Shown.{is_shown_oos, is_shown_by_design, is_shown_shelved, is_shown_annunciated, is_shown_active, is_shown_unacknowledged, is_shown_latched, IsShownAsItIs, flags_shown}

-- what is shown, by the answers to the questions
abbrev by-answers : Bool → Bool → Bool → Bool → Bool → Bool → Bool → Shown
by-answers true d h n a u l = shown.OutOfService
by-answers false true h n a u l = shown.ByDesign
by-answers false false true n a u l = shown.Shelved
by-answers false false false false a u l = shown.Normal
by-answers false false false true true true l = shown.Unack
by-answers false false false true true false l = shown.Acked
by-answers false false false true false true true = shown.LatchUnack
by-answers false false false true false true false = shown.RtnUnack
by-answers false false false true false false l = shown.LatchAcked

answered : (x : Shown) → by-answers (is_shown_oos x) (is_shown_by_design x) (is_shown_shelved x) (is_shown_annunciated x) (is_shown_active x) (is_shown_unacknowledged x) (is_shown_latched x) ≡ x
answered shown.OutOfService = refl
answered shown.ByDesign = refl
answered shown.Shelved = refl
answered shown.Normal = refl
answered shown.Unack = refl
answered shown.Acked = refl
answered shown.RtnUnack = refl
answered shown.LatchUnack = refl
answered shown.LatchAcked = refl

same-answers : (o1 o2 d1 d2 h1 h2 n1 n2 a1 a2 u1 u2 l1 l2 : Bool) → o1 ≡ o2 → d1 ≡ d2 → h1 ≡ h2 → n1 ≡ n2 → a1 ≡ a2 → u1 ≡ u2 → l1 ≡ l2
    → by-answers o1 d1 h1 n1 a1 u1 l1 ≡ by-answers o2 d2 h2 n2 a2 u2 l2
same-answers o1 o2 d1 d2 h1 h2 n1 n2 a1 a2 u1 u2 l1 l2 o d h n a u l = rw (o, d, h, n, a, u, l) refl

abbrev row : Bool → Core → Option ℕ → Bool → Bool → ℕ → State
row x c h d o n = record { active = x; core = c; shelved_until = h; by_design = d; out_of_service = o; stamp = n }

shown-by : (x : Bool) (c : Core) (h : Option ℕ) (d o : Bool) (n : ℕ) → IsShownAsItIs (row x c h d o n) (shown_of (row x c h d o n))
shown-by x c h d true n = record { out_of_service = refl; by_design = refl; shelved = refl; annunciated = refl; active = refl; unacknowledged = refl; latched = refl }
shown-by x c h true false n = record { out_of_service = refl; by_design = refl; shelved = refl; annunciated = refl; active = refl; unacknowledged = refl; latched = refl }
shown-by x c (Some k) false false n = record { out_of_service = refl; by_design = refl; shelved = refl; annunciated = refl; active = refl; unacknowledged = refl; latched = refl }
shown-by x Normal None false false n = record { out_of_service = refl; by_design = refl; shelved = refl; annunciated = refl; active = refl; unacknowledged = refl; latched = refl }
shown-by x Unack None false false n = record { out_of_service = refl; by_design = refl; shelved = refl; annunciated = refl; active = refl; unacknowledged = refl; latched = refl }
shown-by x Acked None false false n = record { out_of_service = refl; by_design = refl; shelved = refl; annunciated = refl; active = refl; unacknowledged = refl; latched = refl }
shown-by x RtnUnack None false false n = record { out_of_service = refl; by_design = refl; shelved = refl; annunciated = refl; active = refl; unacknowledged = refl; latched = refl }
shown-by x LatchUnack None false false n = record { out_of_service = refl; by_design = refl; shelved = refl; annunciated = refl; active = refl; unacknowledged = refl; latched = refl }
shown-by x LatchAcked None false false n = record { out_of_service = refl; by_design = refl; shelved = refl; annunciated = refl; active = refl; unacknowledged = refl; latched = refl }

shown-so : (s : State) → IsShownAsItIs s (shown_of s)
shown-so s = shown-by s.active s.core s.shelved_until s.by_design s.out_of_service s.stamp

same-shown : (s : State) (x y : Shown) → IsShownAsItIs s x → IsShownAsItIs s y → x ≡ y
same-shown s x y f g =
    sym (answered x)
    ∙ same-answers _ _ _ _ _ _ _ _ _ _ _ _ _ _ (f.out_of_service ∙ sym g.out_of_service) (f.by_design ∙ sym g.by_design) (f.shelved ∙ sym g.shelved) (f.annunciated ∙ sym g.annunciated) (f.active ∙ sym g.active) (f.unacknowledged ∙ sym g.unacknowledged) (f.latched ∙ sym g.latched)
    ∙ answered y

pub one-shown : (s : State) (x : Shown) → IsShownAsItIs s x ↔ (x ≡ shown_of s)
one-shown s x = (λ h. same-shown s x (shown_of s) h (shown-so s), λ e. subst (IsShownAsItIs s) (sym e) (shown-so s))

pub state-told : (q : Condensed) (i : AlarmId) (s : State) → slice_get q.panel.rows i.0 ≡ Some s → look q (StateOf i) ≡ Ok (alarm (shown_of s) s.active (flags_shown s) s.shelved_until)
state-told q i s e = ap state_report e
