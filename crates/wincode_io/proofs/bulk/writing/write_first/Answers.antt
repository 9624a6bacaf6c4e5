use Rattle.wincode_io.proofs.bulk.writing.write_first.Goals as goal

pub returns-then-values-ge16-clause-is_valid : goal.returns-then-values-ge16-clause-is_valid
returns-then-values-ge16-clause-is_valid g c = rw c.write_run.ensures.count c.write_run.ensures.is_valid

pub returns-then-values-ge4-clause-is_valid : goal.returns-then-values-ge4-clause-is_valid
returns-then-values-ge4-clause-is_valid g c = rw c.write_run-then-values-ge4.ensures.count c.write_run-then-values-ge4.ensures.is_valid

pub returns-else-values-ge4-clause-is_valid : goal.returns-else-values-ge4-clause-is_valid
returns-else-values-ge4-clause-is_valid g c = rw c.write_run-else-values-ge4.ensures.count c.write_run-else-values-ge4.ensures.is_valid
