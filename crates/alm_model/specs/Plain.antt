-- For the proofs.
-- The plant that a plain plant holds.
use Rattle.alm_model.specs.Plant.{Condensed}
use Rattle.alm_model.specs.declared.plain_rows.PlainRows.TheInside.{Inside}

abbrev pub plain_plant : Inside → Condensed
plain_plant p = record {
  panel = record { now = p.clock; count = p.count; next_stamp = p.next_stamp; attrs = p.attrs.items; rows = p.rows.items };
  kept = record { ages = p.ages.items; moments = p.moments.items };
  floods = p.floods.items;
}
