use Rattle.alm_serve.proofs.found.print_found.Goals as goal

pub returns-in-Damaged : goal.returns-in-Damaged
returns-in-Damaged g c = rw (c.in-Damaged.is) (rw (c.from.ensures) at c.put_parts-in-Damaged.ensures)

pub returns-in-Unformatted : goal.returns-in-Unformatted
returns-in-Unformatted g c = rw c.in-Unformatted.is c.put_parts-in-Unformatted.ensures

pub returns-in-Unreadable : goal.returns-in-Unreadable
returns-in-Unreadable g c = rw c.in-Unreadable.is c.put_parts-in-Unreadable.ensures

pub returns-in-Older : goal.returns-in-Older
returns-in-Older g c = rw c.in-Older.is c.put_parts-in-Older.ensures
