-- What holds each time the loop of `offsets::list_offsets` begins a round; `Answers.antt` says why.
use Rattle.std.proofs.Common.{◌≡◌, length}
use Rattle.entries.specs.Listing.Offsets.{PairsTo}
use Rattle.entries.proofs.offsets.list_offsets.Given as goal

abbrev pub invariant-loop-k : goal.invariant-loop-k
invariant-loop-k g l = record {
  long : length l.pairs ≡ 256;
  listed : PairsTo (g.P.Pattern.cells l.fn.pattern) l.columns l.width l.listed l.k l.pairs;
}
