-- The actions of a batch.
use Rattle.std.specs.Prelude.{All, ◌≡◌, Bool, true, ℕ, ◌+◌, List, [], ◌∷◌, ◌++◌, Option, Some, None, Result, Ok, Err}
use Rattle.alm_types.specs.declared.entry.Entry.{Entry}
use Rattle.alm_types.specs.declared.verdict.Verdict.{Verdict}
use Rattle.alm_types.specs.declared.verdict.Verdict.TheVariants.{Accepted, Refused}
use Rattle.alm_types.specs.declared.refusal.Refusal.{Refusal}
use Rattle.alm_model.specs.Plant.{Condensed}
use Rattle.alm_model.specs.Accept.{refusal}
use Rattle.alm_model.specs.Step.{step, run}
use Rattle.alm_model.specs.Judging.{when_accepted}
use Rattle.alm_model.specs.Rules.{AreAdmitted}
use Rattle.alm_codec.specs.Reading.{◌>>=◌}
use Rattle.alm_codec.specs.declared.version.Version.{Version}
use Rattle.alm_codec.specs.Versions.{IsSaid, asker_in, bears}
use Rattle.alm_codec.specs.declared.asked.Asked.{Asked}
use Rattle.alm_codec.specs.Frames.{asked_actions}

-- the plant, unless there is a reason against it
abbrev pub or_place : Option Refusal → ℕ → Condensed → Result Condensed ℕ
or_place None place q = Ok q
or_place (Some why) place q = Err place

abbrev pub tried_one : Condensed → ℕ → Verdict → Result Condensed ℕ
tried_one q place (Accepted a) = or_place (refusal q.panel a) place (step q a)
tried_one q place (Refused why count) = Ok q

-- the plant after the actions of entries from a place on, or the place of the first that isn't admitted there
abbrev pub tried_batch : Condensed → ℕ → List Entry → Result Condensed ℕ
tried_batch q place [] = Ok q
tried_batch q place (e ∷ entries) = tried_one q place e.verdict >>= λ r. tried_batch r (place + 1) entries

-- the accepted actions of these entries, each with the slot that asked, as frames of a version say it
abbrev pub asked_if : Version → (slot : ℕ) → Verdict → List Asked
asked_if version slot (Accepted a) = record { asker = asker_in version slot; action = a } ∷ []
asked_if version slot (Refused why count) = []

abbrev pub accepted_asked : Version → List Entry → List Asked
accepted_asked version [] = []
accepted_asked version (e ∷ entries) = asked_if version e.slot e.verdict ++ accepted_asked version entries

-- what trying one entry comes to
pub record Tries (version : Version) (old new : Condensed) (entry : Entry) (before after : List Asked) : Type 0 where
  pub tried : (place : ℕ) → tried_one old place entry.verdict ≡ Ok new
  pub asked : after ≡ before ++ asked_if version entry.slot entry.verdict
  pub said : All (IsSaid version) (asked_if version entry.slot entry.verdict)
  pub admitted : AreAdmitted old (when_accepted entry.verdict)
  pub plant : new ≡ run old (when_accepted entry.verdict)

-- what trying all of them comes to
pub record TriesAll (version : Version) (old new : Condensed) (entries : List Entry) (found : List Asked) : Type 0 where
  pub tried : tried_batch old 0 entries ≡ Ok new
  pub asked : found ≡ accepted_asked version entries
  pub said : All (IsSaid version) found
  pub admitted : AreAdmitted old (asked_actions found)
  pub plant : new ≡ run old (asked_actions found)

-- whether an entry isn't accepted, or a version has its action
abbrev pub bears_verdict : Version → Verdict → Bool
bears_verdict version (Accepted a) = bears version a
bears_verdict version (Refused why count) = true

abbrev pub bears_entry : Version → Entry → Bool
bears_entry version e = bears_verdict version e.verdict
