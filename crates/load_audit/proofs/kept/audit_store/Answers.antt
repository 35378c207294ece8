use Rattle.load_audit.proofs.kept.audit_store.Goals as goal

pub returns-clause-calls : goal.returns-clause-calls
returns-clause-calls g c = record {
  calls = c.in_ok-log.ensures.calls.calls;
  faults = c.in_ok-log.ensures.calls.faults;
  failed = λ is. absurd (c.audit_log.ensures.no_fault is);
}
