-- Answers to the goals of `examples_of_builds`.
use Rattle.tests_examples.proofs.Builds.{compiler_requests, clean_builds, clean_requests}
use Rattle.tests_examples.proofs.chapters.examples_of_builds.Goals as goal

pub returns-clause-compiler_requests : goal.returns-clause-compiler_requests
returns-clause-compiler_requests c = compiler_requests

pub returns-clause-clean_builds : goal.returns-clause-clean_builds
returns-clause-clean_builds c = clean_builds

pub returns-clause-clean_requests : goal.returns-clause-clean_requests
returns-clause-clean_requests c = clean_requests
