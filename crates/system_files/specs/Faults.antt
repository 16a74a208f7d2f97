-- What a failed call of the system means.
use Rattle.system_files.specs.declared.reading.IoFault.{IoFault}
use Rattle.system_files.specs.declared.reading.IoFault.TheVariants.{NoMemory, Failed}

-- a fault that isn't out of memory
abbrev pub IsFailed : IoFault → Type 0
IsFailed NoMemory = ⊥
IsFailed (Failed cause) = Unit {0}
