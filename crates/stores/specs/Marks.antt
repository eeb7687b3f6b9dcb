-- marked t: how many tokens a meter stores
use Rattle.std.specs.Prelude.{length}
use Rattle.stores.specs.declared.guard.Mark.{Mark}
use Rattle.stores.specs.Tank.{Tank}

abbrev pub marked : Tank → Mark
marked t = record { working = length t.working; building = length t.building }
