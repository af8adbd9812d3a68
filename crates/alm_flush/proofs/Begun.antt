-- A device call after a beginning, which leaves the device alone.
use Rattle.std.proofs.Common.{◌≡◌, ◌≢◌, ◌⊎◌, ◌↔◌, ◌<◌, ◌≤◌, ◌∙◌, List, length, subst}
use Rattle.alm_types.specs.declared.action.Action.{Action}
use Rattle.alm_disk.specs.declared.disk.Disk
use Rattle.alm_store.specs.Advancing.{IsCalls}
use Rattle.alm_store.specs.Calls.{CallDone, CallFailed, IsCall}
use Rattle.alm_store.specs.declared.store.Store.{Ghosts}
use Rattle.alm_flush.specs.Steps.{CallsDevice}
use Rattle.alm_flush.specs.declared.advance.Advance.{Advance}
use Rattle.alm_flush.specs.declared.advance.Advance.TheVariants.{More, Failed}

module _ {S D : Type 0} (g : Ghosts S D) (d : Disk.Ghosts D) where
  pub calls_behind : (result : Advance) (actions : List Action) (old between new : S) → g.disk between ≡ g.disk old → (g.exhausted old → g.exhausted between)
      → CallsDevice g d result actions between new → CallsDevice g d result actions old new
  calls_behind result actions old between new same still c =
      let to = g.disk new in
      record {
        honest = subst (λ x. d.honest x ↔ d.honest to) same c.honest;
        done = λ some not. subst (λ x. CallDone d.serves x to) same (c.done some not);
        goes = λ more. subst (λ x. CallDone d.serves x to) same (c.goes more);
        none = λ empty is. c.none empty is ∙ same;
        failed = λ is. subst (λ x. (to ≡ x) ⊎ CallFailed d.serves x to) same (c.failed is);
        sound = λ not. subst (λ x. d.failures to ≡ d.failures x) same (c.sound not);
        count = subst (λ x. d.failures x ≤ d.failures to) same c.count;
        exhausted = λ is. c.exhausted (still is);
        call = subst (λ x. d.honest x → IsCalls (d.state x) (d.state to)) same c.call;
        one = subst (λ x. d.honest x → 0 < length actions → result ≢ Failed → IsCall (d.state x) (d.state to)) same c.one;
        more = subst (λ x. d.honest x → result ≡ More → IsCall (d.state x) (d.state to)) same c.more;
      }
