-- Accepted posts are accepted copies, and scans are posted as their copies are made.
use Rattle.reh_model.proofs.PostLaws.{accepted_post}
use Rattle.reh_model.proofs.ScanLaws.{post_of_scan}
use Rattle.reh_session.proofs.laws.posts_are_copies.Goals as goal

pub returns-clause-accepted : goal.returns-clause-accepted
returns-clause-accepted c = accepted_post

pub returns-clause-scanned : goal.returns-clause-scanned
returns-clause-scanned c = post_of_scan
