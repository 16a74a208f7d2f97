use Rattle.base_bytes.proofs.Fields.{u32_takes, u32_again, u64_takes, u64_again, text_takes, text_again}
use Rattle.base_bytes.proofs.NameFields.{name_takes, name_again}
use Rattle.base_bytes.proofs.laws.laws_of_bytes.Goals as goal

pub returns-clause-u32_takes : goal.returns-clause-u32_takes
returns-clause-u32_takes c = u32_takes

pub returns-clause-u32_again : goal.returns-clause-u32_again
returns-clause-u32_again c = u32_again

pub returns-clause-u64_takes : goal.returns-clause-u64_takes
returns-clause-u64_takes c = u64_takes

pub returns-clause-u64_again : goal.returns-clause-u64_again
returns-clause-u64_again c = u64_again

pub returns-clause-text_takes : goal.returns-clause-text_takes
returns-clause-text_takes c = text_takes

pub returns-clause-text_again : goal.returns-clause-text_again
returns-clause-text_again c = text_again

pub returns-clause-name_takes : goal.returns-clause-name_takes
returns-clause-name_takes c = name_takes

pub returns-clause-name_again : goal.returns-clause-name_again
returns-clause-name_again c = name_again
