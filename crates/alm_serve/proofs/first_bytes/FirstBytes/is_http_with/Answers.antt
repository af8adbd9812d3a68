use Rattle.std.proofs.Common.{Bool, ◌++◌, sym, ap, subst, ◌∙◌}
use Rattle.std.specs.Prelude.{◌||◌}
use Rattle.alm_serve.specs.Http.{begins_with_method}
use Rattle.alm_serve.specs.Beginnings.{KnowsLine}
use Rattle.alm_serve.proofs.Taken.{first_more, same_method}
use Rattle.alm_serve.specs.declared.first_line.FirstLine.{FirstLine}
use Rattle.alm_serve.proofs.first_bytes.FirstBytes.is_http_with.Goals as goal

pub returns-clause-seen : goal.returns-clause-seen
returns-clause-seen c = λ before saw.
    let knows = λ (l : FirstLine). KnowsLine before l.has_begun l.has_ended l.has_space l.word.items in (
      c.take_first.ensures.bytes ∙ first_more before c.args.came.now c.args.self.now.bytes.items saw.0,
      c.take.ensures before (subst knows (sym c.take_first.ensures.line) saw.1),
    )

pub returns-clause-http : goal.returns-clause-http
returns-clause-http c = λ before saw.
    let seen = returns-clause-seen c before saw in
    let came = before ++ c.args.came.now in
    let method = c.begins_with_method-begins.ensures ∙ ap begins_with_method (c.as_slice.ensures.value ∙ seen.0) ∙ same_method came in
    ap (λ (t : Bool). t || c.is_request.result) method ∙ ap (λ (t : Bool). begins_with_method came || t) (c.is_request.ensures came seen.1)
