-- The statuses of refusals, each with its qualifier. Which refusal has which is this project's own; the statuses are
-- errno's.
use Rattle.cap_table.specs.declared.verdict.Verdict.{Verdict}

-- EINVAL: the command's bytes are too few
abbrev pub invalid_command : Verdict
invalid_command = record { status = 22; qualifier = 1 }

-- EINVAL: the opcode is none that the device has, or isn't in use
abbrev pub invalid_opcode : Verdict
invalid_opcode = record { status = 22; qualifier = 2 }

-- EINVAL: a field of the command's data
abbrev pub invalid_field : Verdict
invalid_field = record { status = 22; qualifier = 3 }

-- EINVAL: the group type
abbrev pub invalid_group : Verdict
invalid_group = record { status = 22; qualifier = 4 }

-- EINVAL: the group member's id
abbrev pub invalid_member : Verdict
invalid_member = record { status = 22; qualifier = 5 }

-- EEXIST: an object of the type has the id
abbrev pub already_there : Verdict
already_there = record { status = 17; qualifier = 3 }

-- ENOSPC: a limit is reached
abbrev pub no_space : Verdict
no_space = record { status = 28; qualifier = 6 }

-- ENXIO: no object has the id
abbrev pub no_object : Verdict
no_object = record { status = 6; qualifier = 6 }

-- EBUSY: objects that are held stand against it
abbrev pub busy : Verdict
busy = record { status = 16; qualifier = 1 }

-- ENOMEM: no verdict of the table; a device whose change finds no memory answers it
abbrev pub no_memory : Verdict
no_memory = record { status = 12; qualifier = 6 }
