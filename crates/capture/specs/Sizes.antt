-- The sizes of the published pcap 2.4 format, in bytes, and of this project's profile of it.
use Rattle.std.specs.Prelude.{ℕ, ◌+◌}

-- a file's header
abbrev pub file_header_size : ℕ
file_header_size = 24

-- what stands before a record's frame
abbrev pub record_size : ℕ
record_size = 16

-- the longest frame; this project's own
abbrev pub longest_frame : ℕ
longest_frame = 262144

-- the longest record, with its frame
abbrev pub longest_record : ℕ
longest_record = record_size + longest_frame

-- how many link types there are, as their number has 16 bits
abbrev pub link_type_count : ℕ
link_type_count = 65536
