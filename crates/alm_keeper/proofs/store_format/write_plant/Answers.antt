use Rattle.std.proofs.Common.{rules, ◌≡◌, ℕ, List, length, ap, ◌∙◌, subst, false}
use Rattle.std.proofs.lemmas.List.{append-nil}
use Rattle.alm_checkpoint.specs.Headers.{header_text}
use Rattle.alm_keeper.specs.Formatting.{IsWritten, IsNewDevice, first_half, Leaves}
use Rattle.alm_keeper.proofs.Fresh.{half_long, new_here, new_leaves, new_sizes, version_here}
use Rattle.alm_keeper.specs.Moments.{FormatMoment, format_calls}
use Rattle.alm_keeper.proofs.Moments.{goes_by, some_by, moment_by}
use Rattle.alm_keeper.proofs.store_format.write_plant.Goals as goal

pub new_half-requires-clause-sizes : goal.new_half-requires-clause-sizes
new_half-requires-clause-sizes g c = new_sizes (g.D.Disk.size c.args.disk) c.args.plant.now c.args.layout.now c.requires.rules c.requires.count c.requires.longest

pub write_all-requires-clause-half : goal.write_all-requires-clause-half
write_all-requires-clause-half g c = ap length (c.deref.ensures.value ∙ c.in-Ok.ensures.text) ∙ half_long (g.D.Disk.size c.args.disk) c.args.plant.now c.args.layout.now c.requires.rules c.requires.count c.requires.longest

pub returns-in-Ok-write_all-clause-formatted : goal.returns-in-Ok-write_all-clause-formatted
returns-in-Ok-write_all-clause-formatted g c =
    let d0 = c.args.disk in
    let d1 = c.write_all.new.disk in
    let q = c.args.plant.now in
    let l = c.args.layout.now in
    let n = g.D.Disk.size d0 in
    let b = (g.D.Disk.state d1).bytes in
    let r = c.requires in
    let header = c.write_header.ensures ∙ append-nil (header_text l) in
    let half = c.deref.ensures.value ∙ c.in-Ok.ensures.text in
    let P = g.D.Disk.honest d0 × ((g.D.Disk.state d0).faulted ≡ false) in
    let W = IsWritten n l c.write_header.new.out c.deref.result.now in
    let plain : (b : List ℕ) → W b → IsWritten n l (header_text l) (first_half l q) b = λ b w. subst (λ (h : List ℕ). IsWritten n l h (first_half l q) b) header (subst (λ (x : List ℕ). IsWritten n l c.write_header.new.out x b) half w) in
    let is_new : P → (b : List ℕ) → W b → IsNewDevice n q b = λ p b w. new_here n q l r.rules r.count r.longest b (plain b w) in
    let step = moment_by g.D.Disk.serves g.D.Disk.state P P W (IsNewDevice n q) (λ p. p) is_new in
    let S = FormatMoment g.D.Disk.serves g.D.Disk.state P W in
    let N = FormatMoment g.D.Disk.serves g.D.Disk.state P (IsNewDevice n q) in
    record {
      same = record { honest = search rules; size = search rules };
      settled = search rules;
      stands = λ honest. new_here n q l r.rules r.count r.longest b (plain b (c.in-Ok-write_all.ensures.written honest));
      version = λ honest. version_here n q l r.rules r.count r.longest b (plain b (c.in-Ok-write_all.ensures.written honest));
      moments = record { layout = l; longest = r.longest; calls = goes_by S N step d0 d1 (format_calls l) c.in-Ok-write_all.ensures.goes };
    }

pub returns-clause-refused : goal.returns-clause-refused
returns-clause-refused g c =
    let d0 = c.args.disk in
    let d1 = c.write_all.new.disk in
    let q = c.args.plant.now in
    let l = c.args.layout.now in
    let n = g.D.Disk.size d0 in
    let r = c.requires in
    let old = g.D.Disk.state d0 in
    let new = g.D.Disk.state d1 in
    let header = c.write_header.ensures ∙ append-nil (header_text l) in
    let half = c.deref.ensures.value ∙ c.in-Ok.ensures.text in
    let P = g.D.Disk.honest d0 × ((g.D.Disk.state d0).faulted ≡ false) in
    let W = IsWritten n l c.write_header.new.out c.deref.result.now in
    let is_new : P → (b : List ℕ) → W b → IsNewDevice n q b = λ p b w. new_here n q l r.rules r.count r.longest b (subst (λ (h : List ℕ). IsWritten n l h (first_half l q) b) header (subst (λ (x : List ℕ). IsWritten n l c.write_header.new.out x b) half w)) in
    let step = moment_by g.D.Disk.serves g.D.Disk.state P P W (IsNewDevice n q) (λ p. p) is_new in
    let S = FormatMoment g.D.Disk.serves g.D.Disk.state P W in
    let N = FormatMoment g.D.Disk.serves g.D.Disk.state P (IsNewDevice n q) in
    let leaves : P → Leaves n l (header_text l) (first_half l q) old new = λ p. subst (λ (h : List ℕ). Leaves n l h (first_half l q) old new) header (subst (λ (x : List ℕ). Leaves n l c.write_header.new.out x old new) half (c.in-Err.ensures.leaves p.0 p.1)) in
    record {
      same = record { honest = search rules; size = search rules };
      too_small = search rules;
      fits = λ is. (l, r.longest);
      unchanged = search rules;
      failed = search rules;
      moments = λ is. record { layout = l; longest = r.longest; calls = some_by S N step d0 d1 (format_calls l) c.in-Err.ensures.fails };
      leaves = λ p. new_leaves n q l r.rules r.count r.longest old new (leaves p);
    }
