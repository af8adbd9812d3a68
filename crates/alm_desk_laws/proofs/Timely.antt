-- A moment that was read is one that the clock may have.
use Rattle.std.proofs.Common.{◌≡◌, ℕ, ◌<◌, ◌^◌, Bool, true, false, List, [], ◌∷◌, length, Option, Some, None, inl, inr, refl, sym, subst, nat_lt}
use Rattle.std.specs.Prelude.{if◌then◌else◌, option_map, option_and_then, unwrap_or, codes, map, ◌==◌}
use Rattle.std.specs.List.{AllByRecursion}
use Rattle.std.proofs.lemmas.Bool.{cases_Bool, ltb-true}
use Rattle.std.proofs.lemmas.Option.{none-some, same_Some}
use Rattle.alm_types.specs.declared.action.Action.TheVariants.{Clock}
use Rattle.alm_types.specs.declared.want.Want.TheVariants.{Do}
use Rattle.alm_types.specs.Wants.{action_of}
use Rattle.alm_types.specs.declared.refusal.Refusal.TheVariants.{BadLine}
use Rattle.alm_model.specs.Rules.{IsTimely}
use Rattle.alm_lines.specs.declared.ask.Ask.{Ask}
use Rattle.alm_lines.specs.declared.ask.Ask.TheVariants.{Act, Look, Recall, Bad}
use Rattle.alm_lines.specs.Line.{value, up_to, number, word, alarm, count_in, stamp_number, moment_in, reading_from, switch, same, cut_at_space, of_none, of_one, of_letter, of_two, of_fields, of_rest, ask_in, line_under, line_of}
use Rattle.alm_lines.specs.Stream.{is_end}
use Rattle.alm_desk.specs.Answers.{SlotLine, AnsweredLine}
use Rattle.alm_desk.specs.Desks.{Tagged, lines_among, after_byte, line_held_at}
use Rattle.alm_desk.specs.Feeding.{line_asked}

-- what is asked is no action, or one of a moment that the clock may have
abbrev pub IsTimelyAsk : Ask → Type 0
IsTimelyAsk (Act want) = IsTimely (action_of want)
IsTimelyAsk (Look query) = Unit {0}
IsTimelyAsk (Recall after) = Unit {0}
IsTimelyAsk (Bad refusal) = Unit {0}

abbrev IsTimelyOption : Option Ask → Type 0
IsTimelyOption None = Unit {0}
IsTimelyOption (Some ask) = IsTimelyAsk ask

either : (t : Bool) (a b : Option Ask) → IsTimelyOption a → IsTimelyOption b → IsTimelyOption (if t then a else b)
either true a b x y = x
either false a b x y = y

mapped : {A : Type 0} (f : A → Ask) (o : Option A) → ((x : A) → IsTimelyAsk (f x)) → IsTimelyOption (option_map f o)
mapped f None h = tt
mapped f (Some x) h = h x

chained : {A B : Type 0} (f : A → B → Ask) (o : Option A) (p : Option B) → ((x : A) (y : B) → IsTimelyAsk (f x y)) → IsTimelyOption (option_and_then (λ x. option_map (f x) p) o)
chained f None p h = tt
chained f (Some x) p h = mapped (f x) p (h x)

-- a number is below its limit
kept-below : (test : Bool) (limit m n : ℕ) → nat_lt m limit ≡ test → (if test then Some m else None) ≡ Some n → n < limit
kept-below true limit m n below e = subst (λ (k : ℕ). k < limit) (same_Some m n e) (ltb-true m limit below)
kept-below false limit m n below e = absurd (none-some n e)

up_to-below : (limit : ℕ) (o : Option ℕ) (n : ℕ) → up_to limit o ≡ Some n → n < limit
up_to-below limit None n e = absurd (none-some n e)
up_to-below limit (Some m) n e = kept-below (nat_lt m limit) limit m n refl e

leading-below : (test : Bool) (limit : ℕ) (o : Option ℕ) (n : ℕ) → (if test then None else up_to limit o) ≡ Some n → n < limit
leading-below true limit o n e = absurd (none-some n e)
leading-below false limit o n e = up_to-below limit o n e

number-below : (limit : ℕ) (digits : List ℕ) (n : ℕ) → number limit digits ≡ Some n → n < limit
number-below limit [] n e = absurd (none-some n e)
number-below limit (d ∷ []) n e = up_to-below limit (value 0 (d ∷ [])) n e
number-below limit (d ∷ c ∷ digits) n e = leading-below (d == 48) limit (value 0 (d ∷ c ∷ digits)) n e

clock-timely : (o : Option ℕ) → ((n : ℕ) → o ≡ Some n → n < 2 ^ 40) → IsTimelyOption (option_map (λ t. Act (Do (Clock t))) o)
clock-timely None h = tt
clock-timely (Some t) h = h t refl

none-timely : (name : List ℕ) → IsTimelyOption (of_none name)
none-timely name = either (same name (codes "STALE")) _ _ tt (either (same name (codes "CHATTER")) _ _ tt (either (same name (codes "PLANT")) _ _ tt (either (same name (codes "SINCE")) _ _ tt tt)))

one-timely : (name first : List ℕ) → IsTimelyOption (of_one name first)
one-timely name first =
    either (same name (codes "ACK")) _ _ (mapped _ (alarm first) (λ x. tt))
    (either (same name (codes "RESET")) _ _ (mapped _ (alarm first) (λ x. tt))
    (either (same name (codes "UNSHELVE")) _ _ (mapped _ (alarm first) (λ x. tt))
    (either (same name (codes "CLOCK")) _ _ (clock-timely (moment_in first) (number-below (2 ^ 40) first))
    (either (same name (codes "STATE")) _ _ (mapped _ (alarm first) (λ x. tt))
    (either (same name (codes "FLOOD")) _ _ (mapped _ (word first) (λ x. tt))
    (either (same name (codes "ATTR")) _ _ (mapped _ (alarm first) (λ x. tt))
    (either (same name (codes "ROW")) _ _ (mapped _ (alarm first) (λ x. tt))
    (either (same name (codes "SINCE")) _ _ (mapped _ (count_in first) (λ x. tt)) tt))))))))

letter-timely : (letter : List ℕ) (n : ℕ) → IsTimelyOption (of_letter letter n)
letter-timely letter n = either (same letter (codes "P")) _ _ tt (either (same letter (codes "A")) _ _ tt (either (same letter (codes "S")) _ _ tt tt))

listed-timely : (first : List ℕ) (o : Option ℕ) → IsTimelyOption (option_and_then (of_letter first) o)
listed-timely first None = tt
listed-timely first (Some n) = letter-timely first n

two-timely : (name first second : List ℕ) → IsTimelyOption (of_two name first second)
two-timely name first second =
    either (same name (codes "VAL")) _ _ (chained _ (alarm first) (reading_from second) (λ x y. tt))
    (either (same name (codes "SHELVE")) _ _ (chained _ (alarm first) (word second) (λ x y. tt))
    (either (same name (codes "OOS")) _ _ (chained _ (alarm first) (switch second) (λ x y. tt))
    (either (same name (codes "DESIGN")) _ _ (chained _ (alarm first) (switch second) (λ x y. tt))
    (either (same name (codes "PRIO")) _ _ (chained _ (alarm first) (word second) (λ x y. tt))
    (either (same name (codes "SETP")) _ _ (chained _ (alarm first) (reading_from second) (λ x y. tt))
    (either (same name (codes "ACK")) _ _ (chained _ (alarm first) (stamp_number second) (λ x y. tt))
    (either (same name (codes "LIST")) _ _ (listed-timely first (word second)) tt)))))))

fields-timely : (name first : List ℕ) (second : Option (List ℕ)) → IsTimelyOption (of_fields name (first, second))
fields-timely name first None = one-timely name first
fields-timely name first (Some second) = two-timely name first second

rest-timely : (name : List ℕ) (fields : Option (List ℕ)) → IsTimelyOption (of_rest (name, fields))
rest-timely name None = none-timely name
rest-timely name (Some fields) = fields-timely name (cut_at_space fields).0 (cut_at_space fields).1

asked-timely : (rest : Option (List ℕ)) → IsTimelyOption (ask_in rest)
asked-timely None = tt
asked-timely (Some rest) = rest-timely (cut_at_space rest).0 (cut_at_space rest).1

or-bad : (o : Option Ask) → IsTimelyOption o → IsTimelyAsk (unwrap_or o (Bad BadLine))
or-bad None h = tt
or-bad (Some ask) h = h

under-timely : (id : Option ℕ) (rest : Option (List ℕ)) → IsTimelyAsk (line_under id rest).ask
under-timely None rest = tt
under-timely (Some id) rest = or-bad (ask_in rest) (asked-timely rest)

line-timely : (bytes : List ℕ) → IsTimelyAsk (line_of bytes).ask
line-timely bytes = elim (cases_Bool (nat_lt 127 (length bytes))) [
  | inl long ↦ rw long tt
  | inr short ↦ rw short (under-timely (word (cut_at_space bytes).0) (cut_at_space bytes).1)
]

-- so is each line that bytes end
abbrev IsTimelyLine : SlotLine → Type 0
IsTimelyLine l = IsTimelyAsk l.line.ask

one-more : (test : Bool) (l : SlotLine) (rest : List SlotLine) → IsTimelyLine l → AllByRecursion IsTimelyLine rest → AllByRecursion IsTimelyLine (if test then l ∷ rest else rest)
one-more true l rest h all = (h, all)
one-more false l rest h all = all

among-timely : (helds : List (List ℕ)) (bytes : List Tagged) → AllByRecursion IsTimelyLine (lines_among helds bytes)
among-timely helds [] = tt
among-timely helds (t ∷ ts) =
    one-more (is_end t.byte) (record { slot = t.slot; line = line_of (line_held_at helds t.slot) }) (lines_among (after_byte helds t) ts)
    (line-timely (line_held_at helds t.slot)) (among-timely (after_byte helds t) ts)

-- the same of lines that were answered
abbrev pub AreTimely : List AnsweredLine → Type 0
AreTimely [] = Unit {0}
AreTimely (m ∷ ms) = IsTimelyAsk m.asked.line.ask × AreTimely ms

unmapped : (lines : List AnsweredLine) → AllByRecursion IsTimelyLine (map line_asked lines) → AreTimely lines
unmapped [] all = tt
unmapped (m ∷ ms) all = (all.0, unmapped ms all.1)

pub read-timely : (lines : List AnsweredLine) (helds : List (List ℕ)) (bytes : List Tagged) → map line_asked lines ≡ lines_among helds bytes → AreTimely lines
read-timely lines helds bytes e = unmapped lines (subst (AllByRecursion IsTimelyLine) (sym e) (among-timely helds bytes))
