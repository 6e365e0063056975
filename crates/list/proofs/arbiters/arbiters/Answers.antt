-- `arbiters::arbiters` meets its contract
use Rattle.std.proofs.Common.{◌∙◌, arith}
use Rattle.list.proofs.ListLaws.{memo_none, main_there, found_list}
use Rattle.list.proofs.arbiters.arbiters.Goals as goal

pub body_walk-requires : goal.body_walk-requires
body_walk-requires c = record {
  taken = main_there _ c.args.design.now.read.taken _ (c.main-main.ensures ∙ c.args.design.now.read.told.own 0 (omega arith));
  memo = memo_none _;
}

pub bytes-requires : goal.bytes-requires
bytes-requires c = tt

pub returns : goal.returns
returns c = let k = c.body_walk.ensures in
    let r = c.bytes.ensures in (
      r.0,
      r.1,
      λ n b. r.2 n b
          ∙ found_list _ _ k.0 c.args.design.now.read.taken _ (c.main-main.ensures
          ∙ c.args.design.now.read.told.own 0 (omega arith)) k.2 n b,
    )
