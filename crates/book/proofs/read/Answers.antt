use Rattle.book.proofs.Deciding.{faults_decide}
use Rattle.book.proofs.read.Goals as goal

pub returns-in_err-check_version-clause-law : goal.returns-in_err-check_version-clause-law
returns-in_err-check_version-clause-law c = faults_decide

pub returns-in_err-check_limits-clause-law : goal.returns-in_err-check_limits-clause-law
returns-in_err-check_limits-clause-law c = faults_decide

pub returns-in_err-check_offsets-clause-law : goal.returns-in_err-check_offsets-clause-law
returns-in_err-check_offsets-clause-law c = faults_decide

pub returns-in_err-check_names-clause-law : goal.returns-in_err-check_names-clause-law
returns-in_err-check_names-clause-law c = faults_decide

pub returns-in_err-check_totals-clause-law : goal.returns-in_err-check_totals-clause-law
returns-in_err-check_totals-clause-law c = faults_decide

pub returns-in_err-check_entries-clause-law : goal.returns-in_err-check_entries-clause-law
returns-in_err-check_entries-clause-law c = faults_decide

pub returns-in_err-check_nodes-clause-law : goal.returns-in_err-check_nodes-clause-law
returns-in_err-check_nodes-clause-law c = faults_decide

pub returns-clause-law : goal.returns-clause-law
returns-clause-law c = faults_decide
