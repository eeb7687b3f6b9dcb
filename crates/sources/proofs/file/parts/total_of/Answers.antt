-- At most 32,768 lengths of at most 65,535 each.
use Rattle.std.proofs.Common.{◌^◌, rules, arith}
use Rattle.std.proofs.lemmas.Iterator.{YieldsList-from_slice}
use Rattle.std.proofs.lemmas.Iterator.Adapters.{fits_from_length, at_most_from_yields_List}
use borrow.Author.Tests.{tests}
use Rattle.sources.proofs.file.parts.total_of.Goals as goal

pub sum-requires-clause-fits : goal.sum-requires-clause-fits
sum-requires-clause-fits c = fits_from_length _ _ 32768 (2 ^ 32) (at_most_from_yields_List (YieldsList-from_slice c.as_chunks.result.0.now cc) (omega (arith, c.as_chunks.ensures.front_len, c.requires))) c.map.ensures.closure (omega arith) (λ x r q k. search (rules, tests))
