use Rattle.alm_shared.proofs.handing.Publisher+ShownPlant+J+P+AppendStep+J+ActionPrefix+J+ActionHistory+J.hand.Goals as goal

pub invariant_of-told : goal.invariant_of-told
invariant_of-told g c = record {
  held = rw (c.again.ensures, c.prefix-handed.ensures, c.again-2.ensures) c.requires.held.0;
  within = rw (c.again.ensures, c.prefix-handed.ensures, c.again-2.ensures) c.requires.held.1;
}
