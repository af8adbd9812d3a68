-- Requests that were judged, and one more.
use Rattle.std.proofs.Common.{◌≡◌, List, [], ◌∷◌, ◌++◌, Option, Result, refl, subst, ◌∙◌}
use Rattle.alm_types.specs.declared.request.Request.{Request}
use Rattle.alm_model.specs.Plant.{Condensed}
use Rattle.alm_desk.specs.Backends.{IsJudged, kept_by}
use Rattle.alm_desk.specs.declared.judged_request.JudgedRequest.{JudgedRequest}
use Rattle.alm_desk.specs.declared.stopped.Stopped.{Stopped}
use Rattle.alm_program.specs.DeskRuns.{AreJudgedAtDesk, JudgedAtDesk}

pub judged_more : (plant : Option Condensed) (kept : List Condensed) (js : List JudgedAtDesk) (now : Option Condensed) (kept_now : List Condensed) (r : Request) (result : Result JudgedRequest Stopped) (later : Option Condensed) (kept_later : List Condensed)
    → AreJudgedAtDesk plant kept js now kept_now → IsJudged now r result later → kept_later ≡ kept_by now kept_now r result
    → AreJudgedAtDesk plant kept (js ++ record { request = r; result = result } ∷ []) later kept_later
judged_more plant kept [] now kept_now r result later kept_later are is keeps =
    (later, subst (λ (q : Option Condensed). IsJudged q r result later) are.0 is, (refl, keeps ∙ (λ i. kept_by (are.0 i) (are.1 i) r result)))
judged_more plant kept (j ∷ js) now kept_now r result later kept_later are is keeps =
    (are.0, are.1, judged_more are.0 (kept_by plant kept j.request j.result) js now kept_now r result later kept_later are.2 is keeps)

pub same_judged : (plant : Option Condensed) (kept : List Condensed) (js : List JudgedAtDesk) (now : Option Condensed) (kept_now : List Condensed) (later : Option Condensed) (kept_later : List Condensed)
    → AreJudgedAtDesk plant kept js now kept_now → later ≡ now → kept_later ≡ kept_now → AreJudgedAtDesk plant kept js later kept_later
same_judged plant kept [] now kept_now later kept_later are is keeps = (is ∙ are.0, keeps ∙ are.1)
same_judged plant kept (j ∷ js) now kept_now later kept_later are is keeps =
    (are.0, are.1, same_judged are.0 (kept_by plant kept j.request j.result) js now kept_now later kept_later are.2 is keeps)
