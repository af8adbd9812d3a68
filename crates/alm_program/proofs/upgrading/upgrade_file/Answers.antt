use Rattle.std.proofs.Common.{rules}
use Rattle.alm_program.proofs.upgrading.upgrade_file.Goals as goal

pub returns-then-eq : goal.returns-then-eq
returns-then-eq g c = record {
  size = c.in_ok-opened.opened.size;
  layout = c.in_ok-opened.opened.layout;
  read = c.in_ok-opened.ensures _ c.in-Ok.ensures.begins;
  made = search (rules, c.eq.ensures, c.if-eq.true);
}

pub returns-in-Ok-replace : goal.returns-in-Ok-replace
returns-in-Ok-replace g c = record {
  size = c.in_ok-opened.opened.size;
  layout = c.in_ok-opened.opened.layout;
  read = c.in_ok-opened.ensures _ c.in-Ok.ensures.begins;
  made = (search (rules, c.eq.ensures, c.if-eq.false), c.in-Ok-replace.ensures);
}
