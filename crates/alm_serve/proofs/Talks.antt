-- The connections of a slot, by its port's turns.
use Rattle.std.proofs.Common.{◌≡◌, ◌∙◌, ℕ, List, [], ◌∷◌, ◌++◌, map, refl, ap, sym, subst, append_assoc}
use Rattle.std.specs.List.{All, AllByRecursion, flat_map}
use Rattle.std.proofs.lemmas.List.{append-nil}
use Rattle.std.proofs.lemmas.List.Elements.{All-nil, All-push}
use Rattle.std.proofs.lemmas.Grind.{flat_map-append}
use Rattle.alm_types.specs.declared.action.Action.{Action}
use Rattle.alm_model.specs.Plant.{Condensed}
use Rattle.alm_session.proofs.Joins.{behind}
use Rattle.alm_session.proofs.Steps.{still}
use Rattle.alm_session.specs.Intakes.{Untaken, lines_from, lines_in, open_in}
use Rattle.alm_session.specs.Turns.{IsByItsReceipt, IsTurn, Learns, LearnsAll, LineAnswer, SlotState, answer_text, bad_line, by_look, by_recall, by_receipt, forgotten, heards, waiting_kind, kinds, line_kind, look_refused, no_room, recall_stopped, stopped, unasked, wants}
use Rattle.alm_session.specs.Unanswered.{Heard}
use Rattle.alm_session.specs.declared.unanswered.Unanswered.{Unanswered}
use Rattle.alm_serve.specs.Ports.{AttendsAll, PortState, any_looks}
use Rattle.alm_serve.specs.Service.{Attends, IsFresh, MovesNothing}
use Rattle.alm_serve.specs.Talks.{AreTalks, IsTalk, Talk}
use Rattle.alm_serve.specs.declared.connection.Connection.{Connection}
use Rattle.alm_serve.specs.declared.connection.Connection.TheVariants.{Awaited, Open, Ended}

-- one more at the end of a list
grown : {X Y : Type 0} (f : X → List Y) (xs : List X) (x : X) → flat_map f (xs ++ x ∷ []) ≡ flat_map f xs ++ f x
grown {X} {Y} f xs x = flat_map-append f xs (x ∷ []) ∙ ap (λ (l : List Y). flat_map f xs ++ l) (append-nil (f x))

abbrev received_in : Talk → List Heard
received_in talk = flat_map heards talk.met ++ talk.dropped

-- all that came, was written, sent and received is that of these connections
record Sums (talks : List Talk) (side : SlotState) : Type 0 where
  came : side.input.came ≡ flat_map (λ (t : Talk). t.came) talks
  written : side.written ≡ flat_map (λ (t : Talk). t.written) talks
  sent : side.sent ≡ flat_map (λ (t : Talk). flat_map wants t.taken) talks
  heard : side.heard ≡ flat_map received_in talks

module _ (base : Condensed) where
  one_named : (known : List Action) (m : LineAnswer) (next : List Action) → Learns any_looks base known m next → IsByItsReceipt m
  one_named known (by_receipt w heard) next h = h.2
  one_named known (by_look id asked list) next h = tt
  one_named known (look_refused id asked list hindrance) next h = tt
  one_named known (no_room id asked list) next h = tt
  one_named known (stopped id asked) next h = tt
  one_named known (by_recall id after list) next h = tt
  one_named known (forgotten id after list) next h = tt
  one_named known (recall_stopped id after) next h = tt
  one_named known (bad_line id refusal) next h = tt
  one_named known (unasked heard) next h = tt

  all_named : (known : List Action) (met : List LineAnswer) (later : List Action) → LearnsAll any_looks base known met later → AllByRecursion IsByItsReceipt met
  all_named known [] later h = tt
  all_named known (m ∷ met) later (next, (k, ks)) = (one_named known m next k, all_named next met later ks)

  -- the session's turns over one connection, from where it began
  record Opened (begin now : SlotState) : Type 0 where
    fresh : IsFresh begin.held begin.waiting begin.left
    turns : IsTurn any_looks base 0 begin now

  abbrev talk_of : (begin now : SlotState) → Opened begin now → Talk
  talk_of begin now o = record { came = o.turns.got; taken = o.turns.taken; met = o.turns.met; written = o.turns.wrote; dropped = [] }

  is_talk : (begin now : SlotState) (o : Opened begin now) → IsTalk base (talk_of begin now o)
  is_talk begin now o = record {
    untaken = lines_in now.held;
    unanswered = now.waiting;
    unwritten = now.left;
    lines = subst (λ (h : Untaken). lines_in h ++ lines_from (open_in h) o.turns.got ≡ o.turns.taken ++ lines_in now.held) o.fresh.0 o.turns.lines;
    order = subst (λ (w : List Unanswered). map waiting_kind w ++ map line_kind o.turns.taken ≡ flat_map kinds o.turns.met ++ map waiting_kind now.waiting) o.fresh.1 o.turns.order;
    text = subst (λ (l : List ℕ). l ++ flat_map (answer_text base) o.turns.met ≡ o.turns.wrote ++ now.left) o.fresh.2 o.turns.text;
    named = all_named begin.known o.turns.met now.known o.turns.learnt;
  }

  -- with this connection
  with_talk : (talks : List Talk) (begin now : SlotState) → Sums talks begin → (o : Opened begin now) → Sums (talks ++ talk_of begin now o ∷ []) now
  with_talk talks begin now sums o =
      let t = talk_of begin now o in
      record {
        came = o.turns.read.0 ∙ ap (λ (l : List ℕ). l ++ o.turns.got) sums.came ∙ sym (grown (λ (k : Talk). k.came) talks t);
        written = o.turns.written ∙ ap (λ (l : List ℕ). l ++ o.turns.wrote) sums.written ∙ sym (grown (λ (k : Talk). k.written) talks t);
        sent = o.turns.sent ∙ ap (λ l. l ++ flat_map wants o.turns.taken) sums.sent ∙ sym (grown (λ (k : Talk). flat_map wants k.taken) talks t);
        heard = o.turns.heard ∙ ap (λ (l : List Heard). l ++ flat_map heards o.turns.met) sums.heard
            ∙ ap (λ (l : List Heard). flat_map received_in talks ++ l) (sym (append-nil (flat_map heards o.turns.met))) ∙ sym (grown received_in talks t);
      }

  -- nothing was read, written or sent, and these receipts came
  untouched : (talks : List Talk) (a b : SlotState) → MovesNothing a b → b.heard ≡ a.heard → Sums talks a → Sums talks b
  untouched talks a b same heard sums = record {
    came = ap (λ i. i.came) same.input ∙ sums.came;
    written = same.written ∙ sums.written;
    sent = same.sent ∙ sums.sent;
    heard = heard ∙ sums.heard;
  }

  abbrev dropping : Talk → List Heard → Talk
  dropping t got = record { came = t.came; taken = t.taken; met = t.met; written = t.written; dropped = t.dropped ++ got }

  is_dropping : (t : Talk) (got : List Heard) → IsTalk base t → IsTalk base (dropping t got)
  is_dropping t got is = record { untaken = is.untaken; unanswered = is.unanswered; unwritten = is.unwritten; lines = is.lines; order = is.order; text = is.text; named = is.named }

  dropped_too : (talks : List Talk) (t : Talk) (a b : SlotState) (got : List Heard) → MovesNothing a b → b.heard ≡ a.heard ++ got → Sums (talks ++ t ∷ []) a → Sums (talks ++ dropping t got ∷ []) b
  dropped_too talks t a b got same heard sums =
      let u = dropping t got in
      record {
        came = ap (λ i. i.came) same.input ∙ sums.came ∙ grown (λ (k : Talk). k.came) talks t ∙ sym (grown (λ (k : Talk). k.came) talks u);
        written = same.written ∙ sums.written ∙ grown (λ (k : Talk). k.written) talks t ∙ sym (grown (λ (k : Talk). k.written) talks u);
        sent = same.sent ∙ sums.sent ∙ grown (λ (k : Talk). flat_map wants k.taken) talks t ∙ sym (grown (λ (k : Talk). flat_map wants k.taken) talks u);
        heard = heard ∙ ap (λ (l : List Heard). l ++ got) (sums.heard ∙ grown received_in talks t)
            ∙ append_assoc (flat_map received_in talks) (received_in t) got
            ∙ ap (λ (l : List Heard). flat_map received_in talks ++ l) (append_assoc (flat_map heards t.met) t.dropped got)
            ∙ sym (grown received_in talks u);
      }

  -- a connection on which nothing was done
  abbrev no_talk : Talk
  no_talk = record { came = []; taken = []; met = []; written = []; dropped = [] }

  is_none : IsTalk base no_talk
  is_none = record { untaken = []; unanswered = []; unwritten = []; lines = refl; order = refl; text = refl; named = tt }

  with_none : (talks : List Talk) (s : SlotState) → Sums talks s → Sums (talks ++ no_talk ∷ []) s
  with_none talks s sums = record {
    came = sums.came ∙ nothing (λ (k : Talk). k.came) refl;
    written = sums.written ∙ nothing (λ (k : Talk). k.written) refl;
    sent = sums.sent ∙ nothing (λ (k : Talk). flat_map wants k.taken) refl;
    heard = sums.heard ∙ nothing received_in refl;
  }
    where
      nothing : {Y : Type 0} (f : Talk → List Y) → f no_talk ≡ [] → flat_map f talks ≡ flat_map f (talks ++ no_talk ∷ [])
      nothing {Y} f empty = sym (append-nil (flat_map f talks)) ∙ ap (λ (l : List Y). flat_map f talks ++ l) (sym empty) ∙ sym (grown f talks no_talk)

  -- the connections that have ended, and the one that is open, or the last one
  abbrev Held : Connection (Unit {0}) → SlotState → Type 0
  Held Awaited s = (talks : List Talk) × All (IsTalk base) talks × Sums talks s
  Held (Open wire) s = (talks : List Talk) × All (IsTalk base) talks × ((begin : SlotState) × Sums talks begin × Opened begin s)
  Held Ended s = (talks : List Talk) × All (IsTalk base) talks × ((last : Talk) × IsTalk base last × Sums (talks ++ last ∷ []) s)

  none : (a : SlotState) → IsTurn any_looks base 0 a a
  none a = still base a a refl refl refl refl refl refl refl refl refl refl

  step : (was now : Connection (Unit {0})) (a b : SlotState) → Attends any_looks base was now a b → Held was a → Held now b
  step Awaited Awaited a b t h = (h.0, h.1, untouched h.0 a b t.0 t.1 h.2)
  step Awaited (Open wire) a b t h = (h.0, h.1, (b, untouched h.0 a b t.0 t.1 h.2, record { fresh = t.3 refl; turns = none b }))
  step Awaited Ended a b t h = (h.0, h.1, (no_talk, is_none, with_none h.0 b (untouched h.0 a b t.0 t.1 h.2)))
  step (Open wire) Awaited a b t h = absurd (t.1 refl)
  step (Open wire) (Open next) a b t h = (h.0, h.1, (h.2.0, h.2.1, record { fresh = h.2.2.fresh; turns = behind h.2.2.turns t.0 }))
  step (Open wire) Ended a b t h =
      let o : Opened h.2.0 b = record { fresh = h.2.2.fresh; turns = behind h.2.2.turns t.0 } in
      (h.0, h.1, (talk_of h.2.0 b o, is_talk h.2.0 b o, with_talk h.0 h.2.0 b h.2.1 o))
  step Ended Awaited a b t h =
      let got = t.1.got in
      (h.0 ++ dropping h.2.0 got ∷ [], All-push (IsTalk base) h.0 (dropping h.2.0 got) h.1 (is_dropping h.2.0 got h.2.1), dropped_too h.0 h.2.0 a b got t.0 t.1.all h.2.2)
  step Ended (Open wire) a b t h = absurd (t.2 refl)
  step Ended Ended a b t h =
      let got = t.1.got in
      (h.0, h.1, (dropping h.2.0 got, is_dropping h.2.0 got h.2.1, dropped_too h.0 h.2.0 a b got t.0 t.1.all h.2.2))

  held_all : (from : PortState) (before : List PortState) (to : PortState) → AttendsAll base from before to → Held from.connection from.side → Held to.connection to.side
  held_all from [] to t h = subst (λ (s : PortState). Held s.connection s.side) (sym t) h
  held_all from (last ∷ before) to t h = step last.connection to.connection last.side to.side t.0 (held_all from before last t.1 h)

  are : (talks : List Talk) (s : SlotState) → All (IsTalk base) talks → Sums talks s → AreTalks base talks s
  are talks s each sums = record { each = each; came = sums.came; written = sums.written; sent = sums.sent; heard = sums.heard }

  ended_by : (c : Connection (Unit {0})) (s : SlotState) → Held c s → (talks : List Talk) × AreTalks base talks s
  ended_by Awaited s h = (h.0, are h.0 s h.1 h.2)
  ended_by (Open wire) s h =
      let t = talk_of h.2.0 s h.2.2 in
      (h.0 ++ t ∷ [], are (h.0 ++ t ∷ []) s (All-push (IsTalk base) h.0 t h.1 (is_talk h.2.0 s h.2.2)) (with_talk h.0 h.2.0 s h.2.1 h.2.2))
  ended_by Ended s h = (h.0 ++ h.2.0 ∷ [], are (h.0 ++ h.2.0 ∷ []) s (All-push (IsTalk base) h.0 h.2.0 h.1 h.2.1) h.2.2)

  -- turns from where there was no connection yet
  pub talks_by : (from : PortState) (before : List PortState) (to : PortState) → from.connection ≡ Awaited → from.side.input.came ≡ [] → from.side.written ≡ [] → from.side.sent ≡ [] → from.side.heard ≡ []
      → AttendsAll base from before to → (talks : List Talk) × AreTalks base talks to.side
  talks_by from before to awaited came written sent heard t =
      ended_by to.connection to.side (held_all from before to t (subst (λ (c : Connection (Unit {0})). Held c from.side) (sym awaited)
      ([], All-nil (IsTalk base), record { came = came; written = written; sent = sent; heard = heard })))
