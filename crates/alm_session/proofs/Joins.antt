-- Turns, one after the other.
use Rattle.std.proofs.Common.{◌≡◌, ℕ, ◌+◌, List, [], ◌∷◌, ◌++◌, length, take, refl, ap, sym, subst, ◌∙◌, arith, append_assoc, length-append}
use Rattle.std.specs.Prelude.{map, if◌then◌else◌}
use Rattle.std.specs.List.{flat_map}
use Rattle.std.proofs.KnownBytes.{Consumes-trans}
use Rattle.std.proofs.lemmas.List.{map-append}
use Rattle.std.proofs.lemmas.Grind.{flat_map-append}
use Rattle.std.proofs.Common.{Bool, true, false}
use Rattle.alm_types.specs.declared.action.Action.{Action}
use Rattle.alm_types.specs.declared.want.Want.{Want}
use Rattle.alm_model.specs.Plant.{Condensed}
use Rattle.alm_lines.specs.declared.line.Line.{Line}
use Rattle.alm_lines.specs.Line.{line_of}
use Rattle.alm_lines.specs.Stream.{is_end, held_behind}
use Rattle.alm_session.specs.Intakes.{lines_from, lines_in, open_in}
use Rattle.alm_session.specs.Turns.{LineAnswer, by_receipt, by_look, look_refused, no_room, stopped, bad_line, unasked, answer_text, LineKind, waiting_kind, line_kind, kinds, heards, unasked_receipts, wants, LearnsAll, refused_next, refused_over, SlotState, IsTurn, Looks, between, looks_of, Looked, Recalls, by_recall, forgotten, recall_stopped}
use Rattle.alm_session.specs.Unanswered.{Heard}
use Rattle.alm_session.proofs.Steps.{with_looks}
use Rattle.alm_session.proofs.Streams.{fed-append}

with_end : (ends : Bool) (held next xs ys : List ℕ) → ((k : List ℕ) → lines_from k (xs ++ ys) ≡ lines_from k xs ++ lines_from (held_behind k xs) ys)
    → (if ends then line_of held ∷ lines_from [] (xs ++ ys) else lines_from (if ends then [] else next) (xs ++ ys))
    ≡ (if ends then line_of held ∷ lines_from [] xs else lines_from (if ends then [] else next) xs) ++ lines_from (held_behind (if ends then [] else next) xs) ys
with_end true held next xs ys h = ap (λ (l : List Line). line_of held ∷ l) (h [])
with_end false held next xs ys h = h next

lines_from-append : (held xs ys : List ℕ) → lines_from held (xs ++ ys) ≡ lines_from held xs ++ lines_from (held_behind held xs) ys
lines_from-append held [] ys = refl
lines_from-append held (x ∷ xs) ys = with_end (is_end x) held (take 128 (held ++ x ∷ [])) xs ys (λ k. lines_from-append k xs ys)

pub knows-append : (looks : Looks) (base : Condensed) (k l m : List Action) (xs ys : List LineAnswer) → LearnsAll looks base k xs l → LearnsAll looks base l ys m → LearnsAll looks base k (xs ++ ys) m
knows-append looks base k l m [] ys p q = rw (← p) q
knows-append looks base k l m (x ∷ xs) ys (next, (step, rest)) q = (next, (step, knows-append looks base next l m xs ys rest q))

refused_over-append : (base : Condensed) (n : ℕ) (xs ys : List LineAnswer) → refused_over base n (xs ++ ys) ≡ refused_over base (refused_over base n xs) ys
refused_over-append base n [] ys = refl
refused_over-append base n (x ∷ xs) ys = refused_over-append base (refused_next base n x) xs ys

-- two lists, each split in two
across : {X : Type 0} (a b c s t u v : List X) → a ++ s ≡ u ++ b → b ++ t ≡ v ++ c → a ++ (s ++ t) ≡ (u ++ v) ++ c
across a b c s t u v p q = sym (append_assoc a s t) ∙ ap (λ l. l ++ t) p ∙ append_assoc u b t ∙ ap (λ l. u ++ l) q ∙ sym (append_assoc u v c)

-- a list that grew twice
longer : {X : Type 0} (a b c s t : List X) → b ≡ a ++ s → c ≡ b ++ t → c ≡ a ++ (s ++ t)
longer {X} a b c s t p q = q ∙ ap (λ (l : List X). l ++ t) p ∙ append_assoc a s t

pub joined : {looks : Looks} {base : Condensed} {m n : ℕ} {a b c : SlotState} → IsTurn looks base m a b → IsTurn looks base n b c → IsTurn looks base (m + n) a c
joined {looks} {base} {m} {n} {a} {b} {c} p q = record {
  got = p.got ++ q.got;
  wrote = p.wrote ++ q.wrote;
  taken = p.taken ++ q.taken;
  met = p.met ++ q.met;
  read = (longer a.input.came b.input.came c.input.came p.got q.got p.read.0 q.read.0, Consumes-trans a.input.coming b.input.coming c.input.coming p.got q.got p.read.1 q.read.1);
  lines = ap (λ (l : List Line). lines_in a.held ++ l) (lines_from-append (open_in a.held) p.got q.got ∙ ap (λ (h : List ℕ). lines_from (open_in a.held) p.got ++ lines_from h q.got) (sym p.open_line))
      ∙ across (lines_in a.held) (lines_in b.held) (lines_in c.held) (lines_from (open_in a.held) p.got) (lines_from (open_in b.held) q.got) p.taken q.taken p.lines q.lines;
  open_line = q.open_line ∙ ap (λ (h : List ℕ). held_behind h q.got) p.open_line ∙ sym (fed-append (open_in a.held) p.got q.got);
  order = ap (λ (l : List LineKind). map waiting_kind a.waiting ++ l) (map-append line_kind p.taken q.taken)
      ∙ across (map waiting_kind a.waiting) (map waiting_kind b.waiting) (map waiting_kind c.waiting) (map line_kind p.taken) (map line_kind q.taken) (flat_map kinds p.met) (flat_map kinds q.met) p.order q.order
      ∙ ap (λ (l : List LineKind). l ++ map waiting_kind c.waiting) (sym (flat_map-append kinds p.met q.met));
  text = ap (λ (l : List ℕ). a.left ++ l) (flat_map-append (answer_text base) p.met q.met)
      ∙ across a.left b.left c.left (flat_map (answer_text base) p.met) (flat_map (answer_text base) q.met) p.wrote q.wrote p.text q.text;
  written = longer a.written b.written c.written p.wrote q.wrote p.written q.written;
  sent = q.sent ∙ ap (λ (l : List Want). l ++ flat_map wants q.taken) p.sent ∙ append_assoc a.sent (flat_map wants p.taken) (flat_map wants q.taken) ∙ ap (λ (l : List Want). a.sent ++ l) (sym (flat_map-append wants p.taken q.taken));
  heard = q.heard ∙ ap (λ (l : List Heard). l ++ flat_map heards q.met) p.heard ∙ append_assoc a.heard (flat_map heards p.met) (flat_map heards q.met) ∙ ap (λ (l : List Heard). a.heard ++ l) (sym (flat_map-append heards p.met q.met));
  learnt = knows-append looks base a.known b.known c.known p.met q.met p.learnt q.learnt;
  refused = q.refused ∙ ap (λ (n : ℕ). refused_over base n q.met) p.refused ∙ sym (refused_over-append base a.refused p.met q.met);
  balance = omega (arith, p.balance, q.balance, ap length (flat_map-append unasked_receipts p.met q.met), length-append (flat_map unasked_receipts p.met) (flat_map unasked_receipts q.met));
  moved = omega (arith, p.moved, q.moved, length-append p.got q.got, length-append p.wrote q.wrote, length-append p.taken q.taken, ap length (flat_map-append heards p.met q.met), length-append (flat_map heards p.met) (flat_map heards q.met));
}

-- something, after what did nothing that counts
pub behind : {looks : Looks} {base : Condensed} {n : ℕ} {a b c : SlotState} → IsTurn looks base 0 a b → IsTurn looks base n b c → IsTurn looks base n a c
behind {looks} {base} {n} {a} {b} {c} p q = subst (λ (k : ℕ). IsTurn looks base k a c) (none_more n) (joined p q)
  where
    none_more : (n : ℕ) → 0 + n ≡ n
    none_more n = omega arith

-- the looks of some turns are among all
module _ {L : Type 0} (looked : Looked L) (recalled : Recalls L) (x y : L) where
  knows_among : (base : Condensed) (known : List Action) (met : List LineAnswer) (later : List Action) → LearnsAll (between looked recalled x y) base known met later → LearnsAll (looks_of looked recalled) base known met later
  knows_among base known [] later k = k
  knows_among base known (by_receipt w h ∷ ms) later (next, (k, ks)) = (next, (k, knows_among base next ms later ks))
  knows_among base known (by_look id asked list ∷ ms) later (next, (k, ks)) = (next, (((x, (y, k.0)), k.1, k.2), knows_among base next ms later ks))
  knows_among base known (look_refused id asked list hindrance ∷ ms) later (next, (k, ks)) = (next, (((k.0.0, (x, (y, k.0.1)), k.0.2), k.1, k.2), knows_among base next ms later ks))
  knows_among base known (no_room id asked list ∷ ms) later (next, (k, ks)) = (next, (((x, (y, k.0)), k.1, k.2, k.3), knows_among base next ms later ks))
  knows_among base known (stopped id asked ∷ ms) later (next, (k, ks)) = (next, (((x, (y, k.0)), k.1, k.2), knows_among base next ms later ks))
  knows_among base known (by_recall id after list ∷ ms) later (next, (k, ks)) = (next, (((x, (y, k.0)), k.1, k.2, k.3), knows_among base next ms later ks))
  knows_among base known (forgotten id after list ∷ ms) later (next, (k, ks)) = (next, (((x, (y, k.0)), k.1, k.2, k.3), knows_among base next ms later ks))
  knows_among base known (recall_stopped id after ∷ ms) later (next, (k, ks)) = (next, (((x, (y, k.0)), k.1), knows_among base next ms later ks))
  knows_among base known (bad_line id refusal ∷ ms) later (next, (k, ks)) = (next, (k, knows_among base next ms later ks))
  knows_among base known (unasked h ∷ ms) later (next, (k, ks)) = (next, (k, knows_among base next ms later ks))

  pub among : (base : Condensed) (n : ℕ) (a b : SlotState) → IsTurn (between looked recalled x y) base n a b → IsTurn (looks_of looked recalled) base n a b
  among base n a b p = with_looks (looks_of looked recalled) p (knows_among base a.known p.met b.known p.learnt)
