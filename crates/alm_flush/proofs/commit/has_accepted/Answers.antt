use Rattle.std.proofs.Common.{◌≡◌, ◌+◌, ◌<◌, ◌≤◌, ◌++◌, [], ◌∷◌, refl, ap, sym, ◌∙◌, arith, length, length-append, take, drop}
use Rattle.std.proofs.lemmas.List.{take-append-drop, take_all}
use Rattle.alm_types.specs.declared.entry.Entry.{Entry}
use Rattle.alm_model.specs.Judging.{accepted_of}
use Rattle.alm_model.proofs.Legal.{accepted_append, take_accepted, take_refused}
use Rattle.alm_flush.proofs.commit.has_accepted.Goals as goal

pub returns-in-Accepted : goal.returns-in-Accepted
returns-in-Accepted c =
    let items = c.entries-entry-items.result.now in
    let k = c.loop-entry.entry-index in
    let a = c.in-Accepted.field-0 in
    let before = accepted_of (take k items) in
    let more : accepted_of (take (k + 1) items) ≡ before ++ a ∷ [] = take_accepted items k c.entry-item.result a c.loop-entry-test.true (ap (λ (e : Entry). e.verdict) (sym c.entry-item.is) ∙ c.in-Accepted.is) in
    let split : accepted_of items ≡ accepted_of (take (k + 1) items) ++ accepted_of (drop (k + 1) items) = ap accepted_of (sym (take-append-drop (k + 1) items)) ∙ accepted_append (take (k + 1) items) (drop (k + 1) items) in
    let some : 0 < length (accepted_of c.args.batch.now.entries) = omega (
      arith,
      ap (λ l. length (accepted_of l)) c.entries-entry-items.ensures.entries,
      ap length split,
      length-append (accepted_of (take (k + 1) items)) (accepted_of (drop (k + 1) items)),
      ap length more,
      length-append before (a ∷ []),
    ) in
    (λ _. some, λ _. refl)

pub loop-entry-preserved : goal.loop-entry-preserved
loop-entry-preserved c = record {
  none = take_refused c.entries-entry-items.result.now c.loop-entry.entry-index c.entry-item.result c.in-Refused.field-0 c.in-Refused.field-1 c.loop-entry-test.true (ap (λ (e : Entry). e.verdict) (sym c.entry-item.is) ∙ c.in-Refused.is)
      ∙ c.loop-entry.invariant.none;
}

pub returns : goal.returns
returns c =
    let items = c.entries-entry-items.result.now in
    let past : length items ≤ c.loop-entry.entry-index = omega (arith, c.loop-entry-test.false) in
    let none : accepted_of items ≡ [] = ap accepted_of (sym (take_all c.loop-entry.entry-index items past)) ∙ c.loop-entry.invariant.none in
    let len : length (accepted_of c.args.batch.now.entries) ≡ 0 = ap (λ l. length (accepted_of l)) (sym c.entries-entry-items.ensures.entries) ∙ ap length none in
    (λ is. absurd (cc is), λ some. absurd (omega (arith, some, len)))
