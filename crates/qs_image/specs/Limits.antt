-- The limits of an image.
use Rattle.std.specs.Prelude.{ℕ, ◌^◌}

-- the words of the code; as many as jumps reach, `reached_words` of qs_asm, on which nothing here stands
abbrev pub most_code_words : ℕ
most_code_words = 262144

-- the bytes of the data; the same number as `global_limit` of qs_types, for another reason: that limits sources
abbrev pub most_data_bytes : ℕ
most_data_bytes = 16777216

-- the functions with a body; the same number as `function_limit` of qs_types, for another reason: that limits sources
abbrev pub most_functions : ℕ
most_functions = 512

-- the bytes of their names together
abbrev pub most_name_bytes : ℕ
most_name_bytes = 1048576

-- the bytes of stack that a call costs; those of `largest_frame` of qs_frames, on which nothing here stands
abbrev pub largest_cost : ℕ
largest_cost = 2 ^ 28
