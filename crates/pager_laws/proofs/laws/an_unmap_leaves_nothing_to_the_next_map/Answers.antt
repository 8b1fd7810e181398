use Rattle.pager_laws.proofs.NewPages.{new_again}
use Rattle.pager_laws.proofs.laws.an_unmap_leaves_nothing_to_the_next_map.Goals as goal

pub returns : goal.returns
returns c = λ st c d m n space page first len p kind rights r. new_again st (record {
  unmapper = c;
  unmap_number = m;
  mapper = d;
  map_number = n;
  space = space;
  page = page;
  first = first;
  length = len;
  kind = kind;
  rights = rights;
}) p r
