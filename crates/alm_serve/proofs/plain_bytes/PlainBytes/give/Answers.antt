use Rattle.std.proofs.Common.{List, ℕ, ◌++◌, inr, refl, sym, ap, subst, ◌∙◌}
use Rattle.alm_serve.specs.Http.{begins_as_http}
use Rattle.alm_serve.specs.Beginnings.{Saw}
use Rattle.alm_serve.proofs.Begun.{plain_before}
use Rattle.alm_serve.proofs.plain_bytes.PlainBytes.give.Goals as goal

pub invariant_of-self-2 : goal.invariant_of-self-2
invariant_of-self-2 c =
    let old = c.args.self.now in
    let more = c.args.came.now in
    let first = c.is_http_with-is_http.new.self in
    let plain = sym (c.is_http_with-is_http.ensures.http old.came.bytes old.saw) ∙ c.if-is_http.false in
    let all = c.note-2.ensures ∙ ap (λ (l : List ℕ). l ++ more) (old.all (plain_before old.came.bytes more plain)) in
    record {
      saw = subst (λ (l : List ℕ). Saw l first.bytes.items first.line) (sym c.note.ensures) (c.is_http_with-is_http.ensures.seen old.came.bytes old.saw);
      plain = ap begins_as_http all ∙ plain;
      all = λ none. all ∙ sym c.note.ensures;
    }

pub returns-clause-either : goal.returns-clause-either
returns-clause-either c =
    let old = c.args.self.now in
    inr (refl, ap begins_as_http c.note.ensures ∙ sym (c.is_http_with-is_http.ensures.http old.came.bytes old.saw) ∙ c.if-is_http.false, c.note-2.ensures)
