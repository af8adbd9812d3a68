-- Entries are tried one after the other.
use Rattle.std.proofs.Common.{All, take, ◌*◌, ◌≡◌, ℕ, ◌+◌, ◌<◌, ◌≤◌, List, [], ◌∷◌, ◌++◌, length, drop, get_or, Option, Result, Ok, Err, refl, sym, ◌∙◌, ap, subst, append_assoc, arith, length-append}
use Rattle.std.proofs.lemmas.List.{drop_more, map-append}
use Rattle.std.proofs.lemmas.List.Elements.{All-append}
use Rattle.alm_types.specs.declared.action.Action.{Action}
use Rattle.alm_types.specs.declared.entry.Entry.{Entry}
use Rattle.alm_types.specs.declared.verdict.Verdict.{Verdict}
use Rattle.alm_types.specs.declared.verdict.Verdict.TheVariants.{Accepted, Refused}
use Rattle.alm_model.specs.Plant.{Condensed}
use Rattle.alm_types.specs.declared.refusal.Refusal.{Refusal}
use Rattle.alm_model.specs.Step.{step, run}
use Rattle.alm_model.specs.Rules.{AreAdmitted}
use Rattle.alm_codec.specs.Reading.{◌>>=◌}
use Rattle.alm_model.specs.Rules.{AllAdmitted}
use Rattle.alm_model.specs.Judging.{when_accepted, accepted_of}
use Rattle.alm_codec.specs.declared.asked.Asked.{Asked}
use Rattle.alm_codec.specs.declared.version.Version.{Version}
use Rattle.alm_codec.specs.Frames.{IsFrame, asked_actions, frame_body}
use Rattle.alm_codec.specs.Versions.{AreBorne, IsSaid}
use Rattle.alm_keeper.specs.Batch.{asked_if, accepted_asked, or_place, tried_one, tried_batch, Tries, TriesAll}
use Rattle.alm_keeper.specs.Keeping.{Committing}
use Rattle.alm_keeper.specs.Stand.{Account, TakesFrame}
use Rattle.alm_model.proofs.Runs.{admitted_join, run_append}
use Rattle.alm_segment.proofs.Pushed.{asked_length}

module _ (version : Version) (entries : List Entry) (place : ℕ) (e : Entry) (lt : place < length entries) (is : e ≡ get_or entries place e) where
  at : drop place entries ≡ e ∷ drop (place + 1) entries
  at = drop_more entries place e lt ∙ ap (λ (x : Entry). x ∷ drop (place + 1) entries) (sym is)

  pub same_more : (q now new : Condensed) (before after : List Asked) → tried_batch q 0 entries ≡ tried_batch now place (drop place entries) → Tries version now new e before after → tried_batch q 0 entries ≡ tried_batch new (place + 1) (drop (place + 1) entries)
  same_more q now new before after same t = same ∙ ap (tried_batch now place) at ∙ ap (λ (r : Result Condensed ℕ). r >>= λ x. tried_batch x (place + 1) (drop (place + 1) entries)) (t.tried place)

  pub same_none : (q now : Condensed) → tried_batch q 0 entries ≡ tried_batch now place (drop place entries) → tried_one now place e.verdict ≡ Err place → tried_batch q 0 entries ≡ Err place
  same_none q now same t = same ∙ ap (tried_batch now place) at ∙ ap (λ (r : Result Condensed ℕ). r >>= λ x. tried_batch x (place + 1) (drop (place + 1) entries)) t

  pub asked_more : (now new : Condensed) (before after : List Asked) → accepted_asked version entries ≡ before ++ accepted_asked version (drop place entries) → Tries version now new e before after → accepted_asked version entries ≡ after ++ accepted_asked version (drop (place + 1) entries)
  asked_more now new before after so_far t =
      so_far ∙ ap (λ (l : List Entry). before ++ accepted_asked version l) at ∙ sym (append_assoc before (asked_if version e.slot e.verdict) (accepted_asked version (drop (place + 1) entries)))
      ∙ ap (λ (l : List Asked). l ++ accepted_asked version (drop (place + 1) entries)) (sym t.asked)

-- ---- with who asked, and without

when_asked : (version : Version) (slot : ℕ) (v : Verdict) → asked_actions (asked_if version slot v) ≡ when_accepted v
when_asked version slot (Accepted a) = refl
when_asked version slot (Refused why count) = refl

pub asked_accepted : (version : Version) (entries : List Entry) → asked_actions (accepted_asked version entries) ≡ accepted_of entries
asked_accepted version [] = refl
asked_accepted version (e ∷ entries) = map-append (λ (x : Asked). x.action) (asked_if version e.slot e.verdict) (accepted_asked version entries) ∙ (λ i. when_asked version e.slot e.verdict i ++ asked_accepted version entries i)

-- the actions after one entry more
after_entry : (version : Version) (now new : Condensed) (e : Entry) (before after : List Asked) → Tries version now new e before after → asked_actions after ≡ asked_actions before ++ when_accepted e.verdict
after_entry version now new e before after t =
    ap asked_actions t.asked ∙ map-append (λ (x : Asked). x.action) before (asked_if version e.slot e.verdict) ∙ ap (λ (l : List Action). asked_actions before ++ l) (when_asked version e.slot e.verdict)

pub said_more : (version : Version) (now new : Condensed) (e : Entry) (before after : List Asked) → All (IsSaid version) before → Tries version now new e before after → All (IsSaid version) after
said_more version now new e before after so_far t = subst (All (IsSaid version)) (sym t.asked) (All-append (IsSaid version) before (asked_if version e.slot e.verdict) so_far t.said)

pub admitted_more : (version : Version) (q now new : Condensed) (e : Entry) (before after : List Asked) → AreAdmitted q (asked_actions before) → now ≡ run q (asked_actions before) → Tries version now new e before after → AreAdmitted q (asked_actions after)
admitted_more version q now new e before after so_far plant t =
    subst (AreAdmitted q) (sym (after_entry version now new e before after t)) (admitted_join q (asked_actions before) (when_accepted e.verdict) so_far (subst (λ (p : Condensed). AreAdmitted p (when_accepted e.verdict)) plant t.admitted))

pub plant_more : (version : Version) (q now new : Condensed) (e : Entry) (before after : List Asked) → now ≡ run q (asked_actions before) → Tries version now new e before after → new ≡ run q (asked_actions after)
plant_more version q now new e before after plant t =
    t.plant ∙ ap (λ (p : Condensed). run p (when_accepted e.verdict)) plant ∙ sym (run_append q (asked_actions before) (when_accepted e.verdict)) ∙ ap (run q) (sym (after_entry version now new e before after t))

pub accepted_few : (entries : List Entry) → length (accepted_of entries) ≤ length entries
accepted_few [] = omega arith
accepted_few (e ∷ entries) = omega (arith, accepted_few entries, length-append (when_accepted e.verdict) (accepted_of entries), one e.verdict)
  where
    one : (v : Verdict) → length (when_accepted v) ≤ 1
    one (Accepted a) = omega arith
    one (Refused why count) = omega arith

-- an action is one, with who asked or without
pub asked_long : (version : Version) (entries : List Entry) → length (accepted_asked version entries) ≡ length (accepted_of entries)
asked_long version entries = sym (asked_length (accepted_asked version entries)) ∙ ap length (asked_accepted version entries)

pub asked_few : (version : Version) (entries : List Entry) → length (accepted_asked version entries) ≤ length entries
asked_few version entries = omega (arith, asked_long version entries, accepted_few entries)

-- a batch of admitted actions is taken
tried_first : (q : Condensed) (place : ℕ) (v : Verdict) (entries : List Entry) → ((r : Condensed) → AllAdmitted r (accepted_of entries) → tried_batch r (place + 1) entries ≡ Ok (run r (accepted_of entries)))
    → AllAdmitted q (when_accepted v ++ accepted_of entries) → (tried_one q place v >>= λ r. tried_batch r (place + 1) entries) ≡ Ok (run q (when_accepted v ++ accepted_of entries))
tried_first q place (Accepted x) entries others p = ap (λ (r : Option Refusal). or_place r place (step q x) >>= λ r. tried_batch r (place + 1) entries) p.0 ∙ others (step q x) p.1
tried_first q place (Refused why count) entries others p = others q p

pub tried_admitted : (q : Condensed) (place : ℕ) (entries : List Entry) → AllAdmitted q (accepted_of entries) → tried_batch q place entries ≡ Ok (run q (accepted_of entries))
tried_admitted q place [] a = refl
tried_admitted q place (e ∷ entries) a = tried_first q place e.verdict entries (λ r p. tried_admitted r (place + 1) entries p) a

-- ---- a commit that is begun

-- as its batch was tried on what is stored
pub committing : (a : Account) (entries : List Entry) (asked : List Asked) (frame : List ℕ) (ahead : Condensed) → TriesAll a.version a.plant ahead entries asked → TakesFrame a (accepted_of entries)
    → (All (IsSaid a.version) asked → IsFrame a.version a.epoch (a.plant.panel.count + 1) asked) → take (19 + 16 * length asked) frame ≡ frame_body a.version a.epoch (a.plant.panel.count + 1) asked → Committing a asked frame ahead
committing a entries asked frame ahead t takes spells text =
    let actions : asked_actions asked ≡ accepted_of entries = ap asked_actions t.asked ∙ asked_accepted a.version entries in
    record {
      spells = spells t.said;
      admitted = t.admitted;
      takes = (omega (arith, takes.0, ap length actions, asked_length asked), subst (AreBorne a.version) (sym actions) takes.1);
      alone = takes.2;
      text = text;
      tried = t.plant;
    }
