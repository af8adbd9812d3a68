use Rattle.alm_keeper.proofs.Standings.{images_of, one_of, rest_of, lies_of, lengths_of, runs_of, frames_of, alone_of, pieces_of, copies_of}
use Rattle.alm_keeper.proofs.keeper.Keeper.images.Goals as goal

pub returns-clause-either : goal.returns-clause-either
returns-clause-either g c = images_of g.D.Disk.honest g.D.Disk.state c.self.inside.disk c.self.inside.book c.args.self.now c.self.view_is c.self.invariant.0 c.self.invariant.2

pub returns-clause-says : goal.returns-clause-says
returns-clause-says g c = one_of g.D.Disk.honest g.D.Disk.state c.self.inside.disk c.self.inside.book c.args.self.now c.self.view_is c.self.invariant.0 c.self.invariant.2

pub returns-clause-rests : goal.returns-clause-rests
returns-clause-rests g c = rest_of g.D.Disk.honest g.D.Disk.state c.self.inside.disk c.self.inside.book c.args.self.now c.self.view_is c.self.invariant.0 c.self.invariant.2

pub returns-clause-lies : goal.returns-clause-lies
returns-clause-lies g c = lies_of g.D.Disk.honest g.D.Disk.state c.self.inside.disk c.self.inside.book c.args.self.now c.self.view_is c.self.invariant.0 c.self.invariant.2

pub returns-clause-order : goal.returns-clause-order
returns-clause-order g c = record {
  lengths = lengths_of g.D.Disk.honest g.D.Disk.state c.self.inside.disk c.self.inside.book c.args.self.now c.self.view_is c.self.invariant.0 c.self.invariant.2;
  runs = runs_of g.D.Disk.honest g.D.Disk.state c.self.inside.disk c.self.inside.book c.args.self.now c.self.view_is c.self.invariant.0 c.self.invariant.2;
  frames = frames_of g.D.Disk.honest g.D.Disk.state c.self.inside.disk c.self.inside.book c.args.self.now c.self.view_is c.self.invariant.0 c.self.invariant.2;
  alone = alone_of g.D.Disk.honest g.D.Disk.state c.self.inside.disk c.self.inside.book c.args.self.now c.self.view_is c.self.invariant.0 c.self.invariant.2;
  pieces = pieces_of g.D.Disk.honest g.D.Disk.state c.self.inside.disk c.self.inside.book c.args.self.now c.self.view_is c.self.invariant.0 c.self.invariant.2;
  copies = copies_of g.D.Disk.honest g.D.Disk.state c.self.inside.disk c.self.inside.book c.args.self.now c.self.view_is c.self.invariant.0 c.self.invariant.2;
}
