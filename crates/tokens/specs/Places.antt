-- origin: the place of what has none of its own
use Rattle.tokens.specs.declared.location.Location.{Location}

abbrev pub origin : Location
origin = record { start = 0; end = 0; line = 1 }
