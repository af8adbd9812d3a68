-- Which alarms are in a list.
use Rattle.std.proofs.Common.{◌≡◌, ℕ, ◌≤◌, Bool, true, false, ◌&&◌, List, Option, Some, None, Ok, is_some, unwrap_or, refl, sym, ap, ◌∙◌, subst, true≢false}
use Rattle.std.specs.Prelude.{◌↔◌, ◌==◌, ◌%◌, ◌<◌, Contains, slice_get, length}
use Rattle.std.proofs.lemmas.Bool.{eqb-true, eq-eqb, and_parts, le-leb, lt-ltb}
use Rattle.std.proofs.lemmas.Option.{none-some, same_Some}
use Rattle.alm_types.specs.declared.attr.Attr.{Attr}
use Rattle.alm_types.specs.declared.query.Query.TheVariants as query
use Rattle.alm_types.specs.Reports.{alarms as listed}
use Rattle.alm_state.specs.Rows.{State, is_annunciated, is_suppressed, is_active_core}
use Rattle.alm_state.specs.declared.core_state.Core.{Core}
use Rattle.alm_state.specs.declared.core_state.Core.TheVariants.{Normal, Unack, Acked, RtnUnack, LatchUnack, LatchAcked}
use Rattle.alm_model.specs.Plant.{Condensed}
use Rattle.alm_model.specs.Lists.{stands_in, is_one, passes, list_of}
use Rattle.alm_model.specs.Look.{look}
use Rattle.alm_model.specs.Lists as lists
use Rattle.alm_model.specs.Rising.{RisesByStamp, is_by_stamp}
use Rattle.alm_model.specs.Rules.{KeepsRules}
use Rattle.alm_model.specs.declared.list.List.{List as Choice}
use Rattle.alm_model.specs.declared.list.List.TheVariants.{Priority, Area, Wheel, Stale, Chatter}
use Rattle.alm_model.proofs.ByStamp.{by-stamp-rises, by-stamp-only}
use Rattle.alm_model.proofs.Listed.{listed-members}
use Rattle.alm_laws.specs.Plant.{IsAlarmOf}
use Rattle.alm_laws.specs.Listed.{Belongs, HasJustThose, IsFound}
use Rattle.alm_laws.proofs.Moving.{alarm-at}

both : (b c : Bool) → b ≡ true → c ≡ true → (b && c) ≡ true
both true c e f = f
both false c e f = e

named-so : (b : Bool) (n m : ℕ) → ((b && (n == m)) ≡ true) ↔ ((b ≡ true) × (n ≡ m))
named-so b n m = (
  λ e. (let p = and_parts b (n == m) e in (p.0, eqb-true n m p.1)),
  λ h. both b (n == m) h.0 (eq-eqb n m h.1),
)

wheel-so : (o : Option ℕ) (n : ℕ) → ((is_some o && (unwrap_or o 0 % 256 == n)) ≡ true) ↔ ((d : ℕ) × (o ≡ Some d) × (d % 256 ≡ n))
wheel-so None n = (λ e. absurd (true≢false (sym e)), λ h. absurd (none-some _ h.1))
wheel-so (Some d) n = (
  λ e. (d, refl, eqb-true (d % 256) n e),
  λ h. eq-eqb (d % 256) n (ap (λ x. x % 256) (same_Some _ _ h.1) ∙ h.2),
)

belongs-so : (list : Choice) (a : Attr) (s : State) → is_by_stamp list ≡ true → (stands_in list a s ≡ true) ↔ Belongs list a s
belongs-so (Priority n) a s by = named-so (is_annunciated s.core) a.priority n
belongs-so (Area n) a s by = named-so (is_annunciated s.core) a.area n
belongs-so (Wheel n) a s by = wheel-so s.shelved_until n
belongs-so Stale a s by = absurd (true≢false (sym by))
belongs-so Chatter a s by = absurd (true≢false (sym by))

pub passes-there : (test : Attr → State → Bool) (oa : Option Attr) (os : Option State) → passes test oa os ≡ true → (a : Attr) × (s : State) × (oa ≡ Some a) × (os ≡ Some s) × (test a s ≡ true)
passes-there test (Some a) (Some s) e = (a, s, refl, refl, e)
passes-there test (Some a) None e = absurd (true≢false (sym e))
passes-there test None os e = absurd (true≢false (sym e))

module _ (q : Condensed) (list : Choice) (by : is_by_stamp list ≡ true) where
  one-so : (i : ℕ) → (is_one (stands_in list) q.panel.attrs q.panel.rows i ≡ true)
      ↔ ((a : Attr) × (s : State) × (slice_get q.panel.attrs i ≡ Some a) × (slice_get q.panel.rows i ≡ Some s) × Belongs list a s)
  one-so i = (
    λ e. (let t = passes-there (stands_in list) (slice_get q.panel.attrs i) (slice_get q.panel.rows i) e in (t.0, t.1, t.2, t.3, (belongs-so list t.0 t.1 by).0 t.4)),
    λ h. ap (λ o. passes (stands_in list) o (slice_get q.panel.rows i)) h.2 ∙ ap (passes (stands_in list) (Some h.0)) h.3 ∙ (belongs-so list h.0 h.1 by).1 h.4,
  )

members : (q : Condensed) (list : Choice) (i : ℕ) → is_by_stamp list ≡ true → Contains (list_of list q) i ↔ (is_one (stands_in list) q.panel.attrs q.panel.rows i ≡ true)
members q (Priority n) i by = listed-members lists.stamp (stands_in (Priority n)) q.panel.attrs q.panel.rows i
members q (Area n) i by = listed-members lists.stamp (stands_in (Area n)) q.panel.attrs q.panel.rows i
members q (Wheel n) i by = listed-members lists.stamp (stands_in (Wheel n)) q.panel.attrs q.panel.rows i
members q Stale i by = absurd (true≢false (sym by))
members q Chatter i by = absurd (true≢false (sym by))

just-those : (q : Condensed) (list : Choice) → is_by_stamp list ≡ true → HasJustThose q list (list_of list q)
just-those q list by i = (λ c. (one-so q list by i).0 ((members q list i by).0 c), λ h. (members q list i by).1 ((one-so q list by i).1 h))

pub one-list : (q : Condensed) (list : Choice) (out : List ℕ) → KeepsRules q → is_by_stamp list ≡ true → (RisesByStamp q.panel out × HasJustThose q list out) ↔ (out ≡ list_of list q)
one-list q list out rules by = (
  λ h. by-stamp-only q list out by h.0 (λ i. (λ c. (one-so q list by i).1 ((h.1 i).0 c), λ e. (h.1 i).1 ((one-so q list by i).0 e))),
  λ e. subst (λ l. RisesByStamp q.panel l × HasJustThose q list l) (sym e) (by-stamp-rises q list rules by, just-those q list by),
)

active-loud : (c : Core) → is_active_core c ≡ true → is_annunciated c ≡ true
active-loud Normal e = absurd (true≢false (sym e))
active-loud Unack e = refl
active-loud Acked e = refl
active-loud RtnUnack e = absurd (true≢false (sym e))
active-loud LatchUnack e = absurd (true≢false (sym e))
active-loud LatchAcked e = absurd (true≢false (sym e))

pub annunciated-found : (q : Condensed) (i : ℕ) (a : Attr) (s : State) → IsAlarmOf q i a s → is_annunciated s.core ≡ true → IsFound q i a
annunciated-found q i a s h loud =
    ((just-those q (Priority a.priority) refl i).1 (a, s, h.attr, h.row, (loud, refl)), (just-those q (Area a.area) refl i).1 (a, s, h.attr, h.row, (loud, refl)))

pub active-found : (q : Condensed) (i : ℕ) (a : Attr) (s : State) → IsAlarmOf q i a s → s.active ≡ true → is_suppressed s ≡ false → IsFound q i a
active-found q i a s h active free =
    let state = (alarm-at q i s h.rules h.row).keeps.state in
    annunciated-found q i a s h (active-loud s.core (sym (state.active free) ∙ active))

pub suppressed-hidden : (q : Condensed) (i area : ℕ) (s : State) → KeepsRules q → slice_get q.panel.rows i ≡ Some s → is_suppressed s ≡ true → Contains (list_of (Area area) q) i → ⊥
suppressed-hidden q i area s rules row under has =
    let state = (alarm-at q i s rules row).keeps.state in
    let b = (just-those q (Area area) refl i).0 has in
    let same : b.1 ≡ s = same_Some _ _ (sym b.3 ∙ row) in
    true≢false (sym b.4.0 ∙ ap (λ x. is_annunciated x.core) same ∙ ap is_annunciated (state.suppressed under))

pub priority-told : (q : Condensed) (n : ℕ) → 1 ≤ n → n ≤ 4 → look q (query.Priority n) ≡ Ok (listed (list_of (Priority n) q))
priority-told q n low high = rw (le-leb 1 n low, le-leb n 4 high) refl

pub area-told : (q : Condensed) (n : ℕ) → n < length q.floods → look q (query.Area n) ≡ Ok (listed (list_of (Area n) q))
area-told q n low = rw (lt-ltb n (length q.floods) low) refl

pub shelved-found : (q : Condensed) (i d : ℕ) (a : Attr) (s : State) → IsAlarmOf q i a s → s.shelved_until ≡ Some d → Contains (list_of (Wheel (d % 256)) q) i
shelved-found q i d a s h e = (just-those q (Wheel (d % 256)) refl i).1 (a, s, h.attr, h.row, (d, e, refl))

pub slot-told : (q : Condensed) (n : ℕ) → n < 256 → look q (query.Wheel n) ≡ Ok (listed (list_of (Wheel n) q))
slot-told q n low = rw (lt-ltb n 256 low) refl
