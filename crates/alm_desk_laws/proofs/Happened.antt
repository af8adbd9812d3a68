-- What a desk reports is what its lines have done.
use Rattle.std.proofs.Common.{◌≡◌, ◌≤◌, ◌<◌, ◌+◌, ◌-◌, ℕ, List, [], ◌∷◌, ◌++◌, Option, Some, None, Ok, Err, Result, length, map, take, drop, refl, sym, ap, ◌∙◌, arith, append_assoc, append-nil, length-drop, drop-drop}
use Rattle.std.specs.Prelude.{if◌then◌else◌}
use Rattle.std.proofs.lemmas.List.{map-append, length-map}
use Rattle.std.proofs.lemmas.Bool.{le-leb, lt-leb}
use Rattle.alm_types.specs.declared.action.Action.{Action}
use Rattle.alm_types.specs.declared.event.Event.{Event}
use Rattle.alm_types.specs.declared.refusal.Refusal.{Refusal}
use Rattle.alm_types.specs.declared.refusal.Refusal.TheVariants.{Forgotten}
use Rattle.alm_types.specs.Counts.{one_more}
use Rattle.alm_types.specs.Tables.{Listing}
use Rattle.alm_model.specs.Plant.{Condensed}
use Rattle.alm_model.specs.Accept.{accept}
use Rattle.alm_events.specs.Events.{most_kept, most_told, last}
use Rattle.alm_events.proofs.Recalling.{last_last}
use Rattle.alm_lines.specs.Reply.{no_text}
use Rattle.alm_lines.specs.Since.{recalled_text}
use Rattle.alm_lines.specs.declared.ask.Ask.{Ask}
use Rattle.alm_lines.specs.declared.ask.Ask.TheVariants.{Act, Look, Recall, Bad}
use Rattle.alm_desk.specs.Answers.{DeskState, SlotLine, AnsweredLine, request, reply_on, since_reply, recall_reply, after_line, after_lines, recent_if_accepted, recent_by, recent_after}
use Rattle.alm_desk.specs.declared.hindrance.Hindrance.{Hindrance}
use Rattle.alm_desk.specs.declared.hindrance.Hindrance.TheVariants as hindrance
use Rattle.alm_desk_laws.specs.Done.{accepted_action, accepted_event, done_at, done_on, done, happened_at, happened_on, happened, HasAnswered, reply_to_since}
use Rattle.alm_desk_laws.proofs.Done.{count-done}

-- what happened is what was done
accepted-same : (q : Condensed) (slot : ℕ) (o : Result Action Refusal) → map (λ (e : Event). e.action) (accepted_event q slot o) ≡ accepted_action o
accepted-same q slot (Ok a) = refl
accepted-same q slot (Err r) = refl

at-same : (q : Condensed) (slot : ℕ) (ask : Ask) (c : Hindrance) → map (λ (e : Event). e.action) (happened_at q slot ask c) ≡ done_at q slot ask c
at-same q slot (Act want) hindrance.Stopped = refl
at-same q slot (Act want) hindrance.Nothing = accepted-same q slot (accept q.panel (request slot want))
at-same q slot (Act want) hindrance.NoMemory = accepted-same q slot (accept q.panel (request slot want))
at-same q slot (Look query) c = refl
at-same q slot (Recall after) c = refl
at-same q slot (Bad why) c = refl

on-same : (o : Option Condensed) (l : SlotLine) (c : Hindrance) → map (λ (e : Event). e.action) (happened_on o l c) ≡ done_on o l c
on-same None l c = refl
on-same (Some q) l c = at-same q l.slot l.line.ask c

pub happened-done : (s : DeskState) (lines : List AnsweredLine) → map (λ (e : Event). e.action) (happened s lines) ≡ done s lines
happened-done s [] = refl
happened-done s (m ∷ ms) =
    map-append (λ (e : Event). e.action) (happened_on s.plant m.asked m.hindrance) (happened (after_line s m) ms)
    ∙ (ap (λ l. l ++ map (λ (e : Event). e.action) (happened (after_line s m) ms)) (on-same s.plant m.asked m.hindrance)
    ∙ ap (λ l. done_on s.plant m.asked m.hindrance ++ l) (happened-done (after_line s m) ms))

-- and the desk remembers the last of it
accepted-kept : (q : Condensed) (slot : ℕ) (o : Result Action Refusal) (xs recent : List Event) → recent ≡ last most_kept xs → recent_if_accepted q recent slot o ≡ last most_kept (xs ++ accepted_event q slot o)
accepted-kept q slot (Ok a) xs recent is = ap (λ l. last most_kept (l ++ accepted_event q slot (Ok a))) is ∙ last_last most_kept xs (accepted_event q slot (Ok a))
accepted-kept q slot (Err r) xs recent is = is ∙ ap (λ l. last most_kept l) (sym (append-nil xs))

still-kept : (xs recent : List Event) → recent ≡ last most_kept xs → recent ≡ last most_kept (xs ++ [])
still-kept xs recent is = is ∙ ap (λ l. last most_kept l) (sym (append-nil xs))

at-kept : (q : Condensed) (slot : ℕ) (ask : Ask) (c : Hindrance) (xs recent : List Event) → recent ≡ last most_kept xs → recent_by q recent slot ask c ≡ last most_kept (xs ++ happened_at q slot ask c)
at-kept q slot (Act want) hindrance.Stopped xs recent is = still-kept xs recent is
at-kept q slot (Act want) hindrance.Nothing xs recent is = accepted-kept q slot (accept q.panel (request slot want)) xs recent is
at-kept q slot (Act want) hindrance.NoMemory xs recent is = accepted-kept q slot (accept q.panel (request slot want)) xs recent is
at-kept q slot (Look query) c xs recent is = still-kept xs recent is
at-kept q slot (Recall after) c xs recent is = still-kept xs recent is
at-kept q slot (Bad why) c xs recent is = still-kept xs recent is

on-kept : (o : Option Condensed) (l : SlotLine) (c : Hindrance) (xs recent : List Event) → recent ≡ last most_kept xs → recent_after o recent l c ≡ last most_kept (xs ++ happened_on o l c)
on-kept None l c xs recent is = still-kept xs recent is
on-kept (Some q) l c xs recent is = at-kept q l.slot l.line.ask c xs recent is

kept : (s : DeskState) (lines : List AnsweredLine) (xs : List Event) → s.recent ≡ last most_kept xs → (after_lines s lines).recent ≡ last most_kept (xs ++ happened s lines)
kept s [] xs is = still-kept xs s.recent is
kept s (m ∷ ms) xs is =
    kept (after_line s m) ms (xs ++ happened_on s.plant m.asked m.hindrance) (on-kept s.plant m.asked m.hindrance xs s.recent is)
    ∙ ap (λ l. last most_kept l) (append_assoc xs (happened_on s.plant m.asked m.hindrance) (happened (after_line s m) ms))

-- and reports it
module _ (t : Listing) (s : DeskState) (lines : List AnsweredLine) (q : Condensed) (h : HasAnswered t s lines q) (fresh : s.recent ≡ []) where
  abbrev all : List Event
  all = happened s lines

  abbrev rest : List Event
  rest = (after_lines s lines).recent

  many : length all ≡ length (done s lines)
  many = sym (length-map all (λ (e : Event). e.action)) ∙ ap length (happened-done s lines)

  counted : q.panel.count ≡ length (done s lines)
  counted = count-done t s lines q h

  is-last : rest ≡ last most_kept all
  is-last = kept s lines [] fresh

  rest-length : length rest ≡ length all - (length all - most_kept)
  rest-length = ap length is-last ∙ length-drop (length all - most_kept) all

  replied : (slot id : ℕ) (after : Option ℕ) → reply_to_since s lines slot id after ≡ recall_reply q rest id after
  replied slot id after = ap (λ o. reply_on o rest (record { slot = slot; line = record { id = id; ask = Recall after } }) hindrance.Nothing) h.stands

  behind : (n : ℕ) → length (done s lines) ≤ n + most_kept → drop (n - (q.panel.count - length rest)) rest ≡ drop n all
  behind n within =
      let m = n - (q.panel.count - length rest) in
      let cut = length all - most_kept in
      let at : cut + m ≡ n = omega (arith, many, counted, rest-length, within) in
      ap (λ l. drop m l) is-last ∙ (drop-drop m cut all ∙ ap (λ k. drop k all) at)

  since-told : (id n : ℕ) → length (done s lines) ≤ n + most_kept → since_reply q rest id n ≡ recalled_text id (length (done s lines)) (one_more n) (take most_told (drop n all))
  since-told id n within =
      let yes = le-leb q.panel.count (n + length rest) (omega (arith, many, counted, rest-length, within)) in
      ap (λ b. if b then recalled_text id q.panel.count (one_more n) (take most_told (drop (n - (q.panel.count - length rest)) rest)) else no_text id Forgotten) yes
      ∙ (ap (λ c. recalled_text id c (one_more n) (take most_told (drop (n - (q.panel.count - length rest)) rest))) counted
      ∙ ap (λ es. recalled_text id (length (done s lines)) (one_more n) (take most_told es)) (behind n within))

  pub told : (slot id n : ℕ) → length (done s lines) ≤ n + most_kept → reply_to_since s lines slot id (Some n) ≡ recalled_text id (length (done s lines)) (one_more n) (take most_told (drop n (happened s lines)))
  told slot id n within = replied slot id (Some n) ∙ since-told id n within

  pub forgotten : (slot id n : ℕ) → n + most_kept < length (done s lines) → reply_to_since s lines slot id (Some n) ≡ no_text id Forgotten
  forgotten slot id n beyond =
      let no = lt-leb q.panel.count (n + length rest) (omega (arith, many, counted, rest-length, beyond)) in
      replied slot id (Some n)
      ∙ ap (λ b. if b then recalled_text id q.panel.count (one_more n) (take most_told (drop (n - (q.panel.count - length rest)) rest)) else no_text id Forgotten) no

  pub oldest-told : (slot id : ℕ) → reply_to_since s lines slot id None ≡ reply_to_since s lines slot id (Some (length (done s lines) - most_kept))
  oldest-told slot id =
      let at : q.panel.count - length rest ≡ length (done s lines) - most_kept = omega (arith, many, counted, rest-length) in
      replied slot id None ∙ (ap (λ n. since_reply q rest id n) at ∙ sym (replied slot id (Some (length (done s lines) - most_kept))))
