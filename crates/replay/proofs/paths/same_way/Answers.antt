-- `same_way` meets its contract.
use Rattle.std.proofs.Common.{◌≤◌, length, sym}
use Rattle.std.proofs.lemmas.List.{get_or_past}
use Rattle.model.proofs.Equal.{path-same}
use Rattle.replay.specs.Promises.{way}
use Rattle.replay.proofs.paths.same_way.Goals as goal

pub returns-in-None : goal.returns-in-None
returns-in-None c =
    let h : length c.args.paths.now ≤ c.args.f = c.in-None.ensures.lookup.3 in
    rw (get_or_past c.args.paths.now c.args.f c.args.path.now h) (sym (path-same (way c.args.path.now)))
