-- One request as a run of the world's steps.
use Rattle.std.specs.Prelude.{zero, suc, ◌≡◌, ◌<◌, ◌⊎◌, ◌+◌, false, ℕ, List, [], ◌∷◌, ◌++◌, length, Result, Ok, Err, OnOk}
use Rattle.alm_types.specs.declared.want.Want.{Want}
use Rattle.alm_types.specs.declared.entry.Entry.{Entry}
use Rattle.alm_types.specs.declared.verdict.Verdict.{Verdict}
use Rattle.alm_model.specs.Plant.{Condensed}
use Rattle.alm_model.specs.Judging.{accepted_of, verdict_of, when_accepted}
use Rattle.alm_disk.specs.Device.{DeviceState}
use Rattle.alm_disk.specs.declared.disk.Disk
use Rattle.alm_store.specs.declared.store.Store.{Ghosts}
use Rattle.alm_flush.specs.declared.held.Held as H
use Rattle.alm_flush.specs.HeldBatch.{waiting_of}
use Rattle.alm_desk.specs.Answers.{request}
use Rattle.alm_desk.specs.declared.judged_request.JudgedRequest.{JudgedRequest}
use Rattle.alm_desk.specs.declared.stopped.Stopped.{Stopped}
use Rattle.alm_pipeline.specs.declared.step.Step.{Step}
use Rattle.alm_pipeline.specs.declared.step.Step.TheVariants.{Send, Take, Seal, Fetch, Call, Publish, Release, GiveBack, Receive}
use Rattle.alm_pipeline.specs.declared.step_event.StepEvent.{StepEvent}
use Rattle.alm_pipeline.specs.declared.step_event.StepEvent.TheVariants.{Sent, Busy, Took, Sealed, Fetched, More, Committed, Failed, Published, Released, GaveBack, Received}
use Rattle.alm_pipeline.specs.declared.pipeline.Pipeline.{Pipeline}
use Rattle.alm_pipeline.specs.World.{World, Nothing, Held, Answers, after_step, live, with_at}
use Rattle.alm_pipeline.specs.Pace.{PacesAll, most_more}
use Rattle.alm_pipeline.specs.Headline.{Sight, Headline, Moves, IsRun, after_steps}
use Rattle.alm_pipeline.specs.Matches.{MatchesOpenWorld, sight_in}

-- no request is under way: all that was sent is taken and answered, and all that was accepted is stored and shown
pub record IsIdle (w : World) : Type 0 where
  pub opened : w.closed ≡ false
  pub taking : w.taking ≡ []
  pub sealed : w.sealed ≡ []
  pub free : w.free ≡ 7
  pub stage : w.stage ≡ Nothing
  pub stored : w.stored ≡ w.accepted
  pub published : w.published ≡ w.accepted
  pub taken : (s : ℕ) → w.taken s ≡ length (w.sent s)
  pub released : (s : ℕ) → length (w.released s) ≡ length (w.sent s)
  pub received : (s : ℕ) → w.received s ≡ length (w.sent s)

-- ---- the steps of a request, and their answers

-- the most device calls of a commit: the last one doesn't return More
abbrev pub commit_calls : ℕ
commit_calls = most_more + 1

-- n device calls that return More
abbrev pub calls : ℕ → List Step
calls zero = []
calls (suc n) = Call ∷ calls n

abbrev pub went_on : ℕ → List StepEvent
went_on zero = []
went_on (suc n) = More ∷ went_on n

-- a request is sent, judged, sealed and fetched
abbrev pub hand_in_steps : ℕ → Want → List Step
hand_in_steps slot want = Send slot want ∷ Take slot ∷ Seal ∷ Fetch ∷ []

abbrev pub hand_in_events : (serial : ℕ) → Verdict → List StepEvent
hand_in_events serial v = Sent serial ∷ Took v ∷ Sealed ∷ Fetched ∷ []

-- it is shown, and its reply released and received
abbrev pub answer_steps : ℕ → List Step
answer_steps slot = Publish ∷ Release ∷ GiveBack ∷ Receive slot ∷ []

abbrev pub answer_events : (slot serial : ℕ) → Verdict → (number : ℕ) → List StepEvent
answer_events slot serial v number = Published ∷ Released slot ∷ GaveBack ∷ Received serial v number ∷ []

-- what a slot's request came to, by which steps: the reply that was received; or it wasn't sent, or a call failed. A
-- commit takes as many calls as it may at most
abbrev pub ComesTo : ℕ → Want → Result JudgedRequest Stopped → List Step → List StepEvent → Type 0
ComesTo slot want (Ok j) steps trace =
    (n serial : ℕ) × (n < commit_calls) × (steps ≡ hand_in_steps slot want ++ (calls n ++ (Call ∷ answer_steps slot))) × (trace ≡ hand_in_events serial j.verdict ++ (went_on n ++ (Committed ∷ answer_events slot serial j.verdict j.number)))
ComesTo slot want (Err e) steps trace =
    ((steps ≡ Send slot want ∷ []) × (trace ≡ Busy ∷ [])) ⊎ ((n serial : ℕ) × (v : Verdict) × (n < commit_calls) × (steps ≡ hand_in_steps slot want ++ (calls n ++ (Call ∷ []))) × (trace ≡ hand_in_events serial v ++ (went_on n ++ (Failed ∷ []))))

-- each entry answers its step
abbrev pub IsTrace : World → List Step → List StepEvent → Type 0
IsTrace w [] [] = Unit {0}
IsTrace w (step ∷ steps) (event ∷ trace) = Answers w step event × IsTrace (after_step w step event) steps trace
IsTrace w [] (event ∷ trace) = ⊥
IsTrace w (step ∷ steps) [] = ⊥

-- no action waits at the flusher, or the one of this verdict
abbrev pub MayWait : H.Held → Verdict → Type 0
MayWait held verdict = (accepted_of (waiting_of held) ≡ []) ⊎ (accepted_of (waiting_of held) ≡ when_accepted verdict)

-- ---- for the proofs: worlds on the way

-- a slot's next entry
abbrev pub entry_at : World → ℕ → Want → Verdict → Entry
entry_at w slot want v = record { slot = slot; serial = w.taken slot + 1; want = want; verdict = v }

-- an idle world in which one request was handed in
abbrev pub handed_in : World → ℕ → Want → Verdict → World
handed_in w slot want v = let entries = entry_at w slot want v ∷ [] in record w {
  sent = with_at w.sent slot (w.sent slot ++ want ∷ []);
  taken = with_at w.taken slot (w.taken slot + 1);
  accepted = w.accepted ++ accepted_of entries;
  taking = [];
  sealed = [];
  free = 6;
  stage = Held entries;
  stored = w.accepted;
  published = w.accepted;
  closed = false;
}

-- .. and stored
abbrev pub stored_world : World → ℕ → Want → Verdict → World
stored_world w slot want v = after_step (handed_in w slot want v) Call Committed

module _ (recovers : List ℕ → Condensed → Type 0) (spent : DeviceState → Type 0) (honest : Type 0) where
  -- these steps, with these answers, lead from a world and its device to another; with an honest device the headline holds before
  -- each
  abbrev pub Leads : World → Sight → List Step → List StepEvent → World → Sight → Type 0
  Leads w d [] [] w' d' = (w' ≡ w) × (d' ≡ d)
  Leads w d (step ∷ steps) (event ∷ trace) w' d' =
      (m : Sight) × Answers w step event × (honest → Headline recovers spent w d.state × Moves recovers spent w step event d m) × Leads (after_step w step event) m steps trace w' d'
  Leads w d [] (event ∷ trace) w' d' = ⊥
  Leads w d (step ∷ steps) [] w' d' = ⊥

module _ {K D : Type 0} {g : Ghosts K D} {d : Disk.Ghosts D} where
  -- what contracts see of its device, if no list was looked at
  abbrev pub sight_of : Pipeline K D g d → Sight
  sight_of p = sight_in 0 p

  -- a world's pipeline, with no request under way
  abbrev pub Rests : World → Pipeline K D g d → Type 0
  Rests w p = MatchesOpenWorld w p × IsIdle w

  -- for the proofs: these steps, with these answers, lead through a pipeline from one world to another
  abbrev pub IsWay : World → List Step → List StepEvent → World → (old new : Pipeline K D g d) → Type 0
  IsWay w steps trace w' old new = Leads g.recovers g.spent (d.honest (g.disk old.flusher.store)) w (sight_of old) steps trace w' (sight_of new)

  -- for the proofs: a request was sent and judged, and its batch is held, with this verdict
  abbrev pub IsHandedIn : World → (slot : ℕ) → Want → (old new : Pipeline K D g d) → Type 0
  IsHandedIn w slot want old new =
      (serial : ℕ) × (v : Verdict) × (v ≡ verdict_of (live w) (request slot want)) × (serial ≡ length (w.sent slot) + 1) × MatchesOpenWorld (handed_in w slot want v) new × IsWay w (hand_in_steps slot want) (hand_in_events serial v) (handed_in w slot want v) old new

  -- for the proofs: the calls of a commit, the last with this answer, lead to a world
  abbrev pub IsCommitWay : World → StepEvent → World → (old new : Pipeline K D g d) → Type 0
  IsCommitWay w event w' old new = (n : ℕ) × (n < commit_calls) × IsWay w (calls n ++ (Call ∷ [])) (went_on n ++ (event ∷ [])) w' old new

  -- for the proofs: the stored batch was shown, and its reply received, with its verdict and its number
  abbrev pub IsHandedOut : World → (slot : ℕ) → Want → Verdict → JudgedRequest → (old new : Pipeline K D g d) → Type 0
  IsHandedOut w slot want v j old new =
      (j.verdict ≡ v) × (w' : World) × Rests w' new × (live w' ≡ live (handed_in w slot want v)) × (j.number ≡ (live w').panel.count) × IsWay (stored_world w slot want v) (answer_steps slot) (answer_events slot (length (w.sent slot) + 1) v j.number) w' old new

  -- A slot's request went through it as a run of the world's steps, and with an honest device as one of the headline's. The calls of
  -- its commit meet the pace
  pub record IsExchange (w : World) (slot : ℕ) (want : Want) (old new : Pipeline K D g d) (result : Result JudgedRequest Stopped) : Type 0 where
    pub steps : List Step
    pub trace : List StepEvent
    pub comes : ComesTo slot want result steps trace
    pub answers : IsTrace w steps trace
    pub run : (d.honest (g.disk old.flusher.store)) → IsRun g.recovers g.spent w (sight_of old) steps trace (sight_of new)
    pub paced : (last : ℕ) × PacesAll most_more w 0 steps trace last
    pub rests : OnOk result (Rests (after_steps w steps trace) new)
