use Rattle.std.proofs.Common.{◌≡◌, ◌++◌, List, [], length, drop, Ok, Err, Result, ap, sym, ◌∙◌, arith}
use Rattle.std.specs.Prelude.{OnOk}
use Rattle.std.proofs.lemmas.List.{drop_all}
use Rattle.alm_types.specs.declared.logged_action.LoggedAction.{LoggedAction}
use Rattle.alm_model.specs.Judging.{logged_actions, logged_of}
use Rattle.alm_model.proofs.Legal.{actions_append, actions_logged}
use Rattle.alm_shared.specs.SharedBoards.{board_shown}
use Rattle.alm_shared.proofs.board.PublisherShownPlantAppendStepActionPrefixActionHistoryPublishMoments.publish.Goals as goal

on_ok : {A E : Type 0} (r : Result A E) (X Y : Type 0) → (X → Y) → OnOk r X → OnOk r Y
on_ok (Ok a) X Y f x = f x
on_ok (Err e) X Y f x = tt

nothing_left : (shown extra : List LoggedAction) → extra ≡ shown → drop (length shown) extra ≡ []
nothing_left shown extra is = drop_all (length shown) extra (omega (arith, ap length is))

pub returns-clause-ok : goal.returns-clause-ok
returns-clause-ok g c =
    let entries = c.args.batch.now.entries in
    let old = board_shown c.args.self.now in
    let new = board_shown c.turn.new.self in
    let handed : c.hand_over.new.self.owner ≡ old ++ logged_of entries = c.in_ok-hand_over.ensures.ok in
    on_ok c.turn.result (new ≡ c.hand_over.new.self.owner) _ (λ shown. (
      ap logged_actions (shown ∙ handed) ∙ actions_append old (logged_of entries) ∙ ap (λ l. logged_actions old ++ l) (actions_logged entries),
      nothing_left new c.turn.new.self.extra (c.turn.ensures.owner.1 ∙ (c.in_ok-hand_over.ensures.clear ∙ sym shown)),
    )) c.turn.ensures.ok
