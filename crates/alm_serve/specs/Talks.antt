-- What the connections of a slot come to.
use Rattle.std.specs.Prelude.{◌≡◌, ℕ, List, [], ◌++◌, map}
use Rattle.std.specs.List.{All, AllByRecursion, flat_map}
use Rattle.alm_model.specs.Plant.{Condensed}
use Rattle.alm_lines.specs.declared.line.Line.{Line}
use Rattle.alm_session.specs.Intakes.{lines_from}
use Rattle.alm_session.specs.Turns.{IsByItsReceipt, LineAnswer, SlotState, answer_text, heards, waiting_kind, kinds, line_kind, wants}
use Rattle.alm_session.specs.Unanswered.{Heard}
use Rattle.alm_session.specs.declared.unanswered.Unanswered.{Unanswered}

-- a connection: the bytes that came, the lines that were taken of them, how they were answered, the bytes that were written, and
-- the receipts that came after its end
pub record Talk : Type 0 where
  pub came : List ℕ
  pub taken : List Line
  pub met : List LineAnswer
  pub written : List ℕ
  pub dropped : List Heard

-- the lines that were taken are the first ones of those that came. Each has its answer, in order, but for the actions among the last
-- ones that are unanswered. What was written is a prefix of the replies. An action is answered by the receipt of its request
pub record IsTalk (base : Condensed) (talk : Talk) : Type 0 where
  pub untaken : List Line
  pub unanswered : List Unanswered
  pub unwritten : List ℕ
  pub lines : lines_from [] talk.came ≡ talk.taken ++ untaken
  pub order : map line_kind talk.taken ≡ flat_map kinds talk.met ++ map waiting_kind unanswered
  pub text : flat_map (answer_text base) talk.met ≡ talk.written ++ unwritten
  pub named : AllByRecursion IsByItsReceipt talk.met

-- all that came to a slot, was written to it, sent to its console and received there is that of these connections, one after the
-- other
pub record AreTalks (base : Condensed) (talks : List Talk) (side : SlotState) : Type 0 where
  pub each : All (IsTalk base) talks
  pub came : side.input.came ≡ flat_map (λ talk. talk.came) talks
  pub written : side.written ≡ flat_map (λ talk. talk.written) talks
  pub sent : side.sent ≡ flat_map (λ talk. flat_map wants talk.taken) talks
  pub heard : side.heard ≡ flat_map (λ talk. flat_map heards talk.met ++ talk.dropped) talks
