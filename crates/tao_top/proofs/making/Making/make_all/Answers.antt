use Rattle.std.proofs.Common.{Ok, ap, arith}
use Rattle.tao_top.proofs.Keeping.{leaves_same, leaves_then}
use Rattle.tao_top.proofs.MakingLemmas.{made_none, made_then, made_then_part}
use Rattle.tao_top.proofs.OneLine.{OnErr-any}
use Rattle.tao_top.proofs.making.Making.make_all.Goals as goal

pub requests-init : goal.requests-init
requests-init g c = record {
  made = made_none _ _ _ _;
  serving = c.requires.serving;
  counts = c.requires.counts;
  tables = leaves_same _ _;
  later = omega arith;
}

pub returns-in_err-make_next-clause-err : goal.returns-in_err-make_next-clause-err
returns-in_err-make_next-clause-err g c =
    OnErr-any _ _ (made_then_part _ _ _ _ _ _ _ _ c.requests.invariant.made _ c.in_err-make_next.ensures.err)

pub returns-in_err-make_next-clause-tables : goal.returns-in_err-make_next-clause-tables
returns-in_err-make_next-clause-tables g c = leaves_then _ _ _ _ c.requests.invariant.tables c.make_next.ensures.tables

pub returns-then-not-branch-clause-ok : goal.returns-then-not-branch-clause-ok
returns-then-not-branch-clause-ok g c = made_then _ _ _ _ _ _ _ _ c.requests.invariant.made _ _ c.in_ok-make_next.ensures.ok

pub returns-then-not-branch-clause-tables : goal.returns-then-not-branch-clause-tables
returns-then-not-branch-clause-tables g c = leaves_then _ _ _ _ c.requests.invariant.tables c.make_next.ensures.tables

pub requests-preserved : goal.requests-preserved
requests-preserved g c = record {
  made = made_then _ _ _ _ _ _ _ _ c.requests.invariant.made _ _ c.in_ok-make_next.ensures.ok;
  serving = c.make_next.ensures.serving;
  counts = c.make_next.ensures.counts;
  tables = leaves_then _ _ _ _ c.requests.invariant.tables c.make_next.ensures.tables;
  later = omega arith;
}
