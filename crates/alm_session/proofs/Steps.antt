-- Single steps of a session.
use Rattle.std.proofs.Common.{◌≡◌, ℕ, ◌+◌, ◌≤◌, List, [], ◌∷◌, ◌++◌, Option, Some, None, length, take, drop, refl, ap, sym, ◌∙◌, arith, length-append}
use Rattle.std.specs.Prelude.{map}
use Rattle.std.specs.List.{flat_map}
use Rattle.std.specs.Io.KnownBytes.{Consumes}
use Rattle.std.proofs.lemmas.List.{take-append-drop, append-nil, length-take-le}
use Rattle.alm_types.specs.declared.action.Action.{Action}
use Rattle.alm_types.specs.declared.want.Want.{Want}
use Rattle.alm_model.specs.Plant.{Condensed}
use Rattle.alm_lines.specs.declared.line.Line.{Line}
use Rattle.alm_lines.specs.Stream.{held_behind}
use Rattle.alm_board.specs.PrefixesOf.{IsPrefixOf}
use Rattle.alm_session.specs.Intakes.{Untaken, lines_from, lines_in, open_in}
use Rattle.alm_session.specs.Wires.{WireInput, ReadsGive}
use Rattle.alm_session.specs.Turns.{LineAnswer, by_receipt, by_look, look_refused, no_room, stopped, bad_line, unasked, answer_text, LineKind, waiting_kind, line_kind, kinds, heards, unasked_receipts, wants, LearnsAll, Learns, refused_next, refused_over, SlotState, IsTurn, Looks, no_looks, by_recall, forgotten, recall_stopped}
use Rattle.alm_session.specs.Unanswered.{Heard, IsAnsweredBy}
use Rattle.alm_session.specs.declared.unanswered.Unanswered.{Unanswered}

consumes_nil : (o : Option (List ℕ)) → Consumes o o []
consumes_nil None = tt
consumes_nil (Some xs) = refl

gives_nil : (i : WireInput) → ReadsGive i i []
gives_nil i = (sym (append-nil i.came), consumes_nil i.coming)

-- what stays of one that is put after no others
one_text : (base : Condensed) (left : List ℕ) (m : LineAnswer) → left ++ flat_map (answer_text base) (m ∷ []) ≡ left ++ answer_text base m
one_text base left m = ap (λ (t : List ℕ). left ++ t) (append-nil (answer_text base m))

-- the only change is that bytes are taken up to the next line
pub still : {looks : Looks} (base : Condensed) (a b : SlotState) → lines_in b.held ≡ lines_in a.held → open_in b.held ≡ open_in a.held → b.waiting ≡ a.waiting → b.left ≡ a.left → b.known ≡ a.known
    → b.input ≡ a.input → b.written ≡ a.written → b.sent ≡ a.sent → b.heard ≡ a.heard → b.refused ≡ a.refused → IsTurn looks base 0 a b
still {looks} base a b lines opens waiting left known input written sent heard refused = record {
  got = [];
  wrote = [];
  taken = [];
  met = [];
  read = rw input (gives_nil a.input);
  lines = append-nil (lines_in a.held) ∙ sym lines;
  open_line = opens;
  order = append-nil (map waiting_kind a.waiting) ∙ ap (map waiting_kind) (sym waiting);
  text = append-nil a.left ∙ sym left;
  written = written ∙ sym (append-nil a.written);
  sent = sent ∙ sym (append-nil a.sent);
  heard = heard ∙ sym (append-nil a.heard);
  learnt = known;
  refused = refused;
  balance = omega (arith, ap length sent, ap length heard, ap length waiting);
  moved = omega arith;
}

-- a receipt answers the first line that waits
pub answered : {looks : Looks} (base : Condensed) (a b : SlotState) (w : Unanswered) (h : Heard) → b.held ≡ a.held → a.waiting ≡ w ∷ b.waiting → b.left ≡ a.left ++ answer_text base (by_receipt w h) → IsPrefixOf a.known b.known → IsPrefixOf h.list b.known
    → IsAnsweredBy w h → b.input ≡ a.input → b.written ≡ a.written → b.sent ≡ a.sent → b.heard ≡ a.heard ++ h ∷ [] → b.refused ≡ a.refused → IsTurn looks base 1 a b
answered {looks} base a b w h held waiting left known learnt is input written sent heard refused = record {
  got = [];
  wrote = [];
  taken = [];
  met = by_receipt w h ∷ [];
  read = rw input (gives_nil a.input);
  lines = append-nil (lines_in a.held) ∙ ap lines_in (sym held);
  open_line = ap open_in held;
  order = append-nil (map waiting_kind a.waiting) ∙ ap (map waiting_kind) waiting;
  text = one_text base a.left (by_receipt w h) ∙ sym left;
  written = written ∙ sym (append-nil a.written);
  sent = sent ∙ sym (append-nil a.sent);
  heard = heard;
  learnt = (b.known, ((known, learnt, is), refl));
  refused = refused;
  balance = omega (arith, ap length sent, ap length waiting, ap length heard, length-append a.heard (h ∷ []));
  moved = omega arith;
}

no_one : {P : Type 0} → ◌≡◌ {A = ℕ} 1 0 → P
no_one {P} e = cc

pub nothing_of : {A : Type 0} (xs : List A) → length xs ≡ 0 → xs ≡ []
nothing_of [] e = refl
nothing_of (x ∷ xs) e = (let bad_line : ◌≡◌ {A = ℕ} 1 0 = omega (arith, e) in no_one bad_line)

-- a receipt comes that is of no action that waits first
pub strayed : {looks : Looks} (base : Condensed) (a b : SlotState) (h : Heard) → b.held ≡ a.held → b.waiting ≡ a.waiting → b.left ≡ a.left → IsPrefixOf a.known b.known → IsPrefixOf h.list b.known
    → b.input ≡ a.input → b.written ≡ a.written → b.sent ≡ a.sent → b.heard ≡ a.heard ++ h ∷ [] → b.refused ≡ a.refused → IsTurn looks base 1 a b
strayed {looks} base a b h held waits left known learnt input written sent heard refused = record {
  got = [];
  wrote = [];
  taken = [];
  met = unasked h ∷ [];
  read = rw input (gives_nil a.input);
  lines = append-nil (lines_in a.held) ∙ ap lines_in (sym held);
  open_line = ap open_in held;
  order = append-nil (map waiting_kind a.waiting) ∙ ap (map waiting_kind) (sym waits);
  text = one_text base a.left (unasked h) ∙ append-nil a.left ∙ sym left;
  written = written ∙ sym (append-nil a.written);
  sent = sent ∙ sym (append-nil a.sent);
  heard = heard;
  learnt = (b.known, ((known, learnt), refl));
  refused = refused;
  balance = omega (arith, ap length sent, ap length waits, ap length heard, length-append a.heard (h ∷ []));
  moved = omega arith;
}

-- bytes are written
pub wrote_some : {looks : Looks} (base : Condensed) (a b : SlotState) (n : ℕ) → 1 ≤ n → n ≤ length a.left → b.held ≡ a.held → b.waiting ≡ a.waiting → b.left ≡ drop n a.left → b.known ≡ a.known
    → b.input ≡ a.input → b.written ≡ a.written ++ take n a.left → b.sent ≡ a.sent → b.heard ≡ a.heard → b.refused ≡ a.refused → IsTurn looks base 1 a b
wrote_some {looks} base a b n some within held waiting left known input written sent heard refused = record {
  got = [];
  wrote = take n a.left;
  taken = [];
  met = [];
  read = rw input (gives_nil a.input);
  lines = append-nil (lines_in a.held) ∙ ap lines_in (sym held);
  open_line = ap open_in held;
  order = append-nil (map waiting_kind a.waiting) ∙ ap (map waiting_kind) (sym waiting);
  text = append-nil a.left ∙ sym (ap (λ (t : List ℕ). take n a.left ++ t) left ∙ take-append-drop n a.left);
  written = written;
  sent = sent ∙ sym (append-nil a.sent);
  heard = heard ∙ sym (append-nil a.heard);
  learnt = known;
  refused = refused;
  balance = omega (arith, ap length sent, ap length heard, ap length waiting);
  moved = omega (arith, some, taken_length n a.left within);
}
  where
    taken_length : (n : ℕ) (xs : List ℕ) → n ≤ length xs → length (take n xs) ≡ n
    taken_length n xs h = length-take-le n xs h

-- bytes are read, if no line was held
pub read_some : {looks : Looks} (base : Condensed) (a b : SlotState) → a.held.line ≡ None → a.held.rest ≡ [] → b.held ≡ record a.held { rest = b.held.rest } → 1 ≤ length b.held.rest → b.waiting ≡ a.waiting → b.left ≡ a.left
    → b.known ≡ a.known → ReadsGive a.input b.input b.held.rest → b.written ≡ a.written → b.sent ≡ a.sent → b.heard ≡ a.heard → b.refused ≡ a.refused → IsTurn looks base 1 a b
read_some {looks} base a b none empty held some waiting left known input written sent heard refused = record {
  got = b.held.rest;
  wrote = [];
  taken = [];
  met = [];
  read = input;
  lines = rw (none, empty) (sym (ap lines_in held ∙ lined a.held b.held.rest none));
  open_line = ap open_in held ∙ opened a.held b.held.rest empty;
  order = append-nil (map waiting_kind a.waiting) ∙ ap (map waiting_kind) (sym waiting);
  text = append-nil a.left ∙ sym left;
  written = written ∙ sym (append-nil a.written);
  sent = sent ∙ sym (append-nil a.sent);
  heard = heard ∙ sym (append-nil a.heard);
  learnt = known;
  refused = refused;
  balance = omega (arith, ap length sent, ap length heard, ap length waiting);
  moved = omega (arith, some);
}
  where
    lined : (h : Untaken) (rest : List ℕ) → h.line ≡ None → lines_in (record h { rest = rest }) ≡ lines_from h.held rest
    lined h rest none = rw none refl

    opened : (h : Untaken) (rest : List ℕ) → h.rest ≡ [] → open_in (record h { rest = rest }) ≡ held_behind (open_in h) rest
    opened h rest empty = rw empty refl

-- a line is taken and answered immediately, or sent
pub took : {looks : Looks} (base : Condensed) (a b : SlotState) (line : Line) (met : List LineAnswer) → a.held.line ≡ Some line → b.held ≡ record a.held { line = None }
    → map waiting_kind a.waiting ++ line_kind line ∷ [] ≡ flat_map kinds met ++ map waiting_kind b.waiting → b.left ≡ a.left ++ flat_map (answer_text base) met
    → b.input ≡ a.input → b.written ≡ a.written → b.sent ≡ a.sent ++ wants line → b.heard ≡ a.heard → flat_map heards met ≡ [] → flat_map unasked_receipts met ≡ [] → LearnsAll looks base a.known met b.known
    → b.refused ≡ refused_over base a.refused met → length (wants line) + length a.waiting ≡ length b.waiting → IsTurn looks base 1 a b
took {looks} base a b line met held later order left input written sent heard none plain learnt refused count = record {
  got = [];
  wrote = [];
  taken = line ∷ [];
  met = met;
  read = rw input (gives_nil a.input);
  lines = append-nil (lines_in a.held) ∙ passed a.held line held ∙ ap (λ (h : Untaken). line ∷ lines_in h) (sym later);
  open_line = ap open_in later;
  order = order;
  text = sym left;
  written = written ∙ sym (append-nil a.written);
  sent = sent ∙ ap (λ (l : List Want). a.sent ++ l) (sym (append-nil (wants line)));
  heard = heard ∙ sym (ap (λ (l : List Heard). a.heard ++ l) none ∙ append-nil a.heard);
  learnt = learnt;
  refused = refused;
  balance = omega (arith, count, ap length sent, length-append a.sent (wants line), ap length heard, ap length plain);
  moved = omega arith;
}
  where
    passed : (h : Untaken) (line : Line) → h.line ≡ Some line → lines_in h ≡ line ∷ lines_in (record h { line = None })
    passed h line held = rw held refl

at_end : (xs ys zs : List ℕ) → xs ≡ zs → ys ≡ [] → xs ≡ ys ++ (zs ++ [])
at_end xs ys zs e f = rw f (e ∙ sym (append-nil zs))

alone_order : (w v : List Unanswered) (s : LineKind) (l : List LineKind) → w ≡ [] → v ≡ [] → l ≡ s ∷ [] → map waiting_kind w ++ s ∷ [] ≡ (l ++ []) ++ map waiting_kind v
alone_order w v s l e f h = rw (e, f, h) refl

-- a line is answered immediately, if no action waits and no byte is to be written
pub at_once : {looks : Looks} (base : Condensed) (a b : SlotState) (line : Line) (m : LineAnswer) → a.held.line ≡ Some line → b.held ≡ record a.held { line = None } → a.waiting ≡ [] → b.waiting ≡ [] → a.left ≡ [] → b.left ≡ answer_text base m
    → kinds m ≡ line_kind line ∷ [] → wants line ≡ [] → heards m ≡ [] → unasked_receipts m ≡ [] → Learns looks base a.known m b.known → b.input ≡ a.input → b.written ≡ a.written → b.sent ≡ a.sent → b.heard ≡ a.heard → b.refused ≡ refused_next base a.refused m → IsTurn looks base 1 a b
at_once {looks} base a b line m held later waiting waits empty left slip want none plain known input written sent heard refused =
    took base a b line (m ∷ []) held later (alone_order a.waiting b.waiting (line_kind line) (kinds m) waiting waits slip) (at_end b.left a.left (answer_text base m) left empty) input written
    (sent ∙ sym (append-nil a.sent) ∙ ap (λ (l : List Want). a.sent ++ l) (sym want)) heard (append-nil (heards m) ∙ none) (append-nil (unasked_receipts m) ∙ plain) (b.known, (known, refl))
    refused (omega (arith, ap length want, ap length waiting, ap length waits))

-- turns without a look are turns with any
knows_more : (looks : Looks) (base : Condensed) (known : List Action) (met : List LineAnswer) (later : List Action) → LearnsAll no_looks base known met later → LearnsAll looks base known met later
knows_more looks base known [] later k = k
knows_more looks base known (by_receipt w h ∷ ms) later (next, (k, ks)) = (next, (k, knows_more looks base next ms later ks))
knows_more looks base known (by_look id asked list ∷ ms) later (next, (k, ks)) = absurd k.0
knows_more looks base known (look_refused id asked list hindrance ∷ ms) later (next, (k, ks)) = absurd k.0.1
knows_more looks base known (no_room id asked list ∷ ms) later (next, (k, ks)) = absurd k.0
knows_more looks base known (stopped id asked ∷ ms) later (next, (k, ks)) = absurd k.0
knows_more looks base known (by_recall id after list ∷ ms) later (next, (k, ks)) = absurd k.0
knows_more looks base known (forgotten id after list ∷ ms) later (next, (k, ks)) = absurd k.0
knows_more looks base known (recall_stopped id after ∷ ms) later (next, (k, ks)) = absurd k.0
knows_more looks base known (bad_line id refusal ∷ ms) later (next, (k, ks)) = (next, (k, knows_more looks base next ms later ks))
knows_more looks base known (unasked h ∷ ms) later (next, (k, ks)) = (next, (k, knows_more looks base next ms later ks))

-- the same turns with other looks, if those were enough for what was learnt
pub with_looks : {from : Looks} (looks : Looks) {base : Condensed} {n : ℕ} {a b : SlotState} → (p : IsTurn from base n a b) → LearnsAll looks base a.known p.met b.known → IsTurn looks base n a b
with_looks {from} looks {base} {n} {a} {b} p learnt = record {
  got = p.got;
  wrote = p.wrote;
  taken = p.taken;
  met = p.met;
  read = p.read;
  lines = p.lines;
  open_line = p.open_line;
  order = p.order;
  text = p.text;
  written = p.written;
  sent = p.sent;
  heard = p.heard;
  learnt = learnt;
  refused = p.refused;
  balance = p.balance;
  moved = p.moved;
}

pub unseen : {looks : Looks} {base : Condensed} {n : ℕ} {a b : SlotState} → IsTurn no_looks base n a b → IsTurn looks base n a b
unseen {looks} {base} {n} {a} {b} p = with_looks looks p (knows_more looks base a.known p.met b.known p.learnt)
