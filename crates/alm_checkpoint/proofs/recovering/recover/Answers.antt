use Rattle.std.proofs.Common.{◌≡◌, Ok, ◌∙◌}
use Rattle.alm_checkpoint.specs.declared.half.Half.TheVariants.{First, Second}
use Rattle.alm_checkpoint.specs.Opening.{Opened, layout_in, heads_in}
use Rattle.alm_checkpoint.proofs.Opens.{no_layout, no_heads, start_is, layout_by, head_by, heads_by, held_by, stands_in_by, refused_by}
use Rattle.alm_checkpoint.proofs.recovering.recover.Goals as goal

pub returns-in-Err-clause-fault : goal.returns-in-Err-clause-fault
returns-in-Err-clause-fault g c =
    let d = c.args.device.now in
    let start = start_is d c.part-start.result.now c.min.result c.min.ensures c.part-start.ensures.bytes in
    no_layout d c.in-Err.fault (layout_by d c.part-start.result.now c.read_header.result c.read_header.ensures.layout start ∙ c.in-Err.is)

pub returns-in-Err-read_heads-clause-fault : goal.returns-in-Err-read_heads-clause-fault
returns-in-Err-read_heads-clause-fault g c =
    let d = c.args.device.now in
    let l = c.in-Ok.layout in
    let start = start_is d c.part-start.result.now c.min.result c.min.ensures c.part-start.ensures.bytes in
    let lay : layout_in d ≡ Ok l = layout_by d c.part-start.result.now c.read_header.result c.read_header.ensures.layout start ∙ c.in-Ok.is in
    let one = head_by d c.part-first.result.now l First c.half_at.result c.half_at.ensures c.part-first.ensures.bytes in
    let two = head_by d c.part-second.result.now l Second c.half_at-2.result c.half_at-2.ensures c.part-second.ensures.bytes in
    let heads : heads_in l d ≡ c.read_heads.result = heads_by d c.part-first.result.now c.part-second.result.now l c.read_heads.result one two c.read_heads.ensures.heads in
    no_heads d l c.in-Err-read_heads.fault lay (heads ∙ c.in-Err-read_heads.is)

pub returns-in-Ok-restore-clause-stands : goal.returns-in-Ok-restore-clause-stands
returns-in-Ok-restore-clause-stands g c =
    let d = c.args.device.now in
    let l = c.in-Ok.layout in
    let start = start_is d c.part-start.result.now c.min.result c.min.ensures c.part-start.ensures.bytes in
    let lay : layout_in d ≡ Ok l = layout_by d c.part-start.result.now c.read_header.result c.read_header.ensures.layout start ∙ c.in-Ok.is in
    let one = head_by d c.part-first.result.now l First c.half_at.result c.half_at.ensures c.part-first.ensures.bytes in
    let two = head_by d c.part-second.result.now l Second c.half_at-2.result c.half_at-2.ensures c.part-second.ensures.bytes in
    let heads : heads_in l d ≡ c.read_heads.result = heads_by d c.part-first.result.now c.part-second.result.now l c.read_heads.result one two c.read_heads.ensures.heads in
    let h = c.in-Ok-read_heads.heads.0 in
    let t = c.in-Ok-read_heads.heads.1 in
    let same = held_by d c.part-image.result.now c.part-segment.result.now l h t c.image_at.result c.segment_at.result c.image_len.result c.segment.result c.part-image.ensures.bytes c.image_at.ensures c.image_len.ensures c.part-segment.ensures.bytes c.segment_at.ensures c.segment.ensures in
    let o : Opened = record { layout = l; half = h; head = t; image = c.part-image.result.now; segment = c.part-segment.result.now } in
    stands_in_by d l h t o (g.P.Alarms.plant c.in-Ok-restore.plant) c.in-Ok-restore.gate lay (heads ∙ c.in-Ok-read_heads.is) same c.in-Ok-restore.ensures.holds

pub returns-in-Err-restore-clause-fault : goal.returns-in-Err-restore-clause-fault
returns-in-Err-restore-clause-fault g c =
    let d = c.args.device.now in
    let l = c.in-Ok.layout in
    let start = start_is d c.part-start.result.now c.min.result c.min.ensures c.part-start.ensures.bytes in
    let lay : layout_in d ≡ Ok l = layout_by d c.part-start.result.now c.read_header.result c.read_header.ensures.layout start ∙ c.in-Ok.is in
    let one = head_by d c.part-first.result.now l First c.half_at.result c.half_at.ensures c.part-first.ensures.bytes in
    let two = head_by d c.part-second.result.now l Second c.half_at-2.result c.half_at-2.ensures c.part-second.ensures.bytes in
    let heads : heads_in l d ≡ c.read_heads.result = heads_by d c.part-first.result.now c.part-second.result.now l c.read_heads.result one two c.read_heads.ensures.heads in
    let h = c.in-Ok-read_heads.heads.0 in
    let t = c.in-Ok-read_heads.heads.1 in
    let same = held_by d c.part-image.result.now c.part-segment.result.now l h t c.image_at.result c.segment_at.result c.image_len.result c.segment.result c.part-image.ensures.bytes c.image_at.ensures c.image_len.ensures c.part-segment.ensures.bytes c.segment_at.ensures c.segment.ensures in
    let o : Opened = record { layout = l; half = h; head = t; image = c.part-image.result.now; segment = c.part-segment.result.now } in
    refused_by d l h t o c.in-Err-restore.fault lay (heads ∙ c.in-Ok-read_heads.is) same c.in-Err-restore.ensures.damage
