use Rattle.std.proofs.Common.{◌≡◌, ◌+◌, ◌-◌, ◌*◌, ◌++◌, ◌∷◌, ℕ, List, length, take, drop, arith, ap, ◌∙◌, length-append, length-drop}
use Rattle.std.proofs.lemmas.List.{take_at, with_items_is, length-take-le}
use Rattle.alm_codec.specs.Frames.{frame_body}
use Rattle.alm_keeper.proofs.Commit.{body_long}
use Rattle.alm_keeper.proofs.frame.put_in_run.Goals as goal

pub returns-clause-text : goal.returns-clause-text
returns-clause-text c =
    let v = c.args.buffer.now in
    let out = c.put_frame.new.out in
    let actions = c.args.actions.now in
    let body = frame_body c.args.version c.args.epoch c.args.first actions in
    let m = 19 + 16 * length actions in
    let n = c.args.run + m in
    let old = c.deref_mut.result.now in
    let front = take (c.args.run - 1) old in
    let text = front ++ (165 ∷ body) in
    let rest = drop n old in
    let same : old ≡ v.items = c.deref_mut.ensures.value in
    let old_long : length old ≡ v.len = omega (arith, ap length same, v.ok.0) in
    let front_long : length front ≡ c.args.run - 1 = length-take-le (c.args.run - 1) old (omega (arith, ap length same, c.requires.room, c.requires.gate)) in
    let long : length text ≡ n = omega (arith, front_long, c.requires.gate, body_long c.args.version c.args.epoch c.args.first actions, length-append front (165 ∷ body)) in
    let is : out ≡ text ++ rest = c.put_frame.ensures.text in
    let all : length out ≡ v.len = omega (arith, ap length is, length-append text rest, long, length-drop n old, ap length same, c.requires.room, old_long) in
    ap (take n) (with_items_is v out all ∙ is) ∙ take_at text rest n long ∙ ap (λ (l : List ℕ). take (c.args.run - 1) l ++ (165 ∷ body)) same
