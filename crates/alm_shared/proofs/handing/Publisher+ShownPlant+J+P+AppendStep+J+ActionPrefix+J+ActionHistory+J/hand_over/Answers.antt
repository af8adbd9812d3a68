use Rattle.std.proofs.Common.{◌≡◌, ◌++◌, ◌-◌, length, drop, ap, subst, ◌∙◌, sym, refl, arith, length-append}
use Rattle.alm_model.specs.Judging.{logged_actions, logged_of}
use Rattle.alm_model.proofs.Legal.{actions_append, actions_logged}
use Rattle.alm_moments.specs.Moments.{AreHeld}
use Rattle.alm_board.specs.PrefixesOf.{IsPrefixOf}
use Rattle.alm_board.proofs.PrefixOfLaws.{prefix_of_length}
use Rattle.alm_shared.specs.SharedBoards.{board_shown}
use Rattle.alm_shared.proofs.Behinds.{handed_prefix, handed_rest}
use Rattle.alm_shared.proofs.handing.Publisher+ShownPlant+J+P+AppendStep+J+ActionPrefix+J+ActionHistory+J.hand_over.Goals as goal

pub last_of-requires : goal.last_of-requires
last_of-requires g c =
    let old = c.args.self.now in
    let s = board_shown old in
    let h = old.owner in
    let acc = logged_of c.args.batch.now.entries in
    let ahead = c.if-not-is_ahead.ensures.0 refl in
    let reached = c.reach.ensures in
    let handed : IsPrefixOf h (s ++ acc) = handed_prefix s h old.extra acc ahead.0 ahead.1 c.requires.same in
    let shown : c.shown.result.now.told.prefix ≡ s = ap (λ v. v.told.prefix) (c.shown.ensures ∙ reached.published) in
    record {
      more = omega (arith, c.len-handed.ensures.length, c.len.ensures, c.len-2.ensures.length, ap length shown, ap length reached.handed, ap length reached.reached, length-append s acc, prefix_of_length s h ahead.0, prefix_of_length h (s ++ acc) handed);
    }

pub hand-requires : goal.hand-requires
hand-requires g c =
    let old = c.args.self.now in
    let s = board_shown old in
    let h = old.owner in
    let acc = logged_of c.args.batch.now.entries in
    let ahead = c.if-not-is_ahead.ensures.0 refl in
    let reached = c.reach.ensures in
    let handed : IsPrefixOf h (s ++ acc) = handed_prefix s h old.extra acc ahead.0 ahead.1 c.requires.same in
    let shown : c.shown.result.now.told.prefix ≡ s = ap (λ v. v.told.prefix) (c.shown.ensures ∙ reached.published) in
    let from : length h - length s ≡ c.len-handed.result - c.len-2.result = omega (arith, c.len-handed.ensures.length, c.len-2.ensures.length, ap length shown, ap length reached.handed) in
    let rest : drop (length h - length s) acc ≡ c.in_ok-actions.actions.items = ap (λ n. drop n acc) from ∙ sym c.in_ok-actions.ensures in
    record {
      next = reached.reached ∙ (sym (handed_rest s h acc ahead.0 handed) ∙ (ap (λ l. h ++ l) rest ∙ ap (λ l. l ++ c.in_ok-actions.actions.items) (sym reached.handed)));
      held = subst (λ l. AreHeld g.J.RunId.base g.J.RunId.first c.args.moments.now l)
          (sym (ap logged_actions reached.reached ∙ actions_append s acc ∙ ap (λ l. logged_actions s ++ l) (actions_logged c.args.batch.now.entries))) c.requires.held;
    }
