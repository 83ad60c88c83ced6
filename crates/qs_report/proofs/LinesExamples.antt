-- Lines that are computed from the definitions: at least one for each variant.
use Rattle.std.specs.Prelude.{◌≡◌, ℕ, List, [], ◌∷◌, ◌++◌, codes, refl, Vec}
use Rattle.std.specs.declared.alloc.Global.{Global}
use Rattle.std.specs.Fmt.{digits}
use Rattle.hex.specs.Hex.{encode_with}
use Rattle.qs_base.specs.declared.places.Pos.{Pos}
use Rattle.qs_image.specs.declared.fault.HeaderWord.TheVariants as header
use Rattle.qs_image.specs.declared.fault.ImageFault.TheVariants as image
use Rattle.qs_lexer.specs.declared.fault.FaultKind.TheVariants as lexical
use Rattle.qs_machine.specs.declared.answers.Cause.TheVariants as cause
use Rattle.qs_types.specs.declared.limits.LimitKind.TheVariants as kinds
use Rattle.qs_types.specs.declared.rules.Rule.TheVariants as rules
use Rattle.qs_entail.specs.declared.fault.Rule.TheVariants as step_rules
use Rattle.qs_entail.specs.declared.stop.Limit.TheVariants.{Terms, Degree}
use Rattle.qs_report.specs.Lines.{bound_line, calls_line, cost_line, count_line, end_line, fault_line}
use Rattle.qs_report.specs.declared.fault_texts.Count.TheVariants.{Checked, Derived, Functions, Output}
use Rattle.qs_report.specs.declared.fault_texts.ElfText.TheVariants as elf
use Rattle.qs_report.specs.declared.fault_texts.FaultText.TheVariants.{Usage, SameName, Missing, Failed, TooLong, Lex, UnexpectedToken, UnexpectedEnd, TooDeep, Rule, Limit, NoMain, NoBody, ProofFile, Cycle, Proof, NoEntry, Order, ArgCount, ArgRange, Image, Elf, Trapped, StepLimit, NoBound, StackTooLarge, NoMemory}
use Rattle.qs_report.specs.declared.fault_texts.Path.{Path}
use Rattle.qs_report.specs.declared.fault_texts.ProofFileText.TheVariants as proof_file
use Rattle.qs_report.specs.declared.fault_texts.ProofText.TheVariants.{Shape, Mentions, Step}
use Rattle.qs_report.specs.declared.fault_texts.ProofText.TheVariants as proof_texts
use Rattle.qs_report.specs.declared.fault_texts.Shown.TheVariants.{Number, Infinite, Wide}
use Rattle.qs_report.specs.declared.fault_texts.Spot.TheVariants.{Pre, Post, Entry, Body, BodyCert}

abbrev ended : List ℕ → List ℕ
ended text = text ++ 10 ∷ []

abbrev place : Pos
place = record { line = 3; column = 14 }

abbrev path : Vec ℕ Global → Path
path steps = record { steps = steps }

-- ---- results

cost : cost_line (codes "main") 16 ≡ ended (codes "cost main 16")
unfolding digits
cost = refl

bound_number : bound_line (Number 4294967296) ≡ ended (codes "bound 4294967296")
unfolding digits
bound_number = refl

bound_infinite : bound_line Infinite ≡ ended (codes "bound infinite")
bound_infinite = refl

bound_wide : bound_line Wide ≡ ended (codes "bound wide")
bound_wide = refl

calls_number : calls_line (Number 7) ≡ ended (codes "calls 7")
unfolding digits
calls_number = refl

calls_infinite : calls_line Infinite ≡ ended (codes "calls infinite")
calls_infinite = refl

calls_wide : calls_line Wide ≡ ended (codes "calls wide")
calls_wide = refl

exit : end_line 255 ≡ ended (codes "exit 255")
unfolding digits
exit = refl

checked : count_line (Checked 2 0) ≡ ended (codes "checked 2 derived 0")
unfolding digits
checked = refl

derived : count_line (Derived 2) ≡ ended (codes "derived 2")
unfolding digits
derived = refl

functions : count_line (Functions 501) ≡ ended (codes "functions 501")
unfolding digits
functions = refl

output : count_line (Output 1) ≡ ended (codes "output 1")
unfolding digits
output = refl

-- ---- faults

usage : fault_line [] [] Usage ≡ ended (codes "usage: qsc COMMAND FILE OPTIONS")
usage = refl

same_name : fault_line (codes "a.c") [] SameName ≡ ended (codes "same name: a.c")
same_name = refl

missing : fault_line (codes "a.c") [] Missing ≡ ended (codes "missing: a.c")
missing = refl

failed : fault_line (codes "a.img") [] Failed ≡ ended (codes "failed: a.img")
failed = refl

too_long : fault_line (codes "a.c") [] TooLong ≡ ended (codes "too long: a.c")
too_long = refl

lex_bad_byte : fault_line (codes "a.c") [] (Lex place lexical.BadByte) ≡ ended (codes "a.c:3:14: bad byte")
unfolding digits
lex_bad_byte = refl

lex_open_comment : fault_line (codes "a.c") [] (Lex place lexical.OpenComment) ≡ ended (codes "a.c:3:14: open comment")
unfolding digits
lex_open_comment = refl

lex_bad_literal : fault_line (codes "a.c") [] (Lex place lexical.BadLiteral) ≡ ended (codes "a.c:3:14: bad literal")
unfolding digits
lex_bad_literal = refl

lex_wide_literal : fault_line (codes "a.c") [] (Lex place lexical.WideLiteral) ≡ ended (codes "a.c:3:14: wide literal")
unfolding digits
lex_wide_literal = refl

lex_directive : fault_line (codes "a.c") [] (Lex place lexical.Directive) ≡ ended (codes "a.c:3:14: directive")
unfolding digits
lex_directive = refl

lex_open_text : fault_line (codes "a.c") [] (Lex place lexical.OpenText) ≡ ended (codes "a.c:3:14: open text")
unfolding digits
lex_open_text = refl

unexpected_token : fault_line (codes "a.c") [] (UnexpectedToken place) ≡ ended (codes "a.c:3:14: unexpected token")
unfolding digits
unexpected_token = refl

unexpected_end : fault_line (codes "a.c") [] (UnexpectedEnd place) ≡ ended (codes "a.c:3:14: unexpected end")
unfolding digits
unexpected_end = refl

too_deep : fault_line (codes "a.c") [] (TooDeep place) ≡ ended (codes "a.c:3:14: too deep")
unfolding digits
too_deep = refl

rule : fault_line (codes "a.c") [] (Rule place rules.IntegerOperands) ≡ ended (codes "a.c:3:14: rule K17")
unfolding digits
rule = refl

limit_nodes : fault_line (codes "a.c") [] (Limit place kinds.Nodes) ≡ ended (codes "a.c:3:14: limit nodes")
unfolding digits
limit_nodes = refl

limit_functions : fault_line (codes "a.c") [] (Limit place kinds.Functions) ≡ ended (codes "a.c:3:14: limit functions")
unfolding digits
limit_functions = refl

limit_parameters : fault_line (codes "a.c") [] (Limit place kinds.Parameters) ≡ ended (codes "a.c:3:14: limit parameters")
unfolding digits
limit_parameters = refl

limit_globals : fault_line (codes "a.c") [] (Limit place kinds.Globals) ≡ ended (codes "a.c:3:14: limit globals")
unfolding digits
limit_globals = refl

limit_locals : fault_line (codes "a.c") [] (Limit place kinds.Locals) ≡ ended (codes "a.c:3:14: limit locals")
unfolding digits
limit_locals = refl

no_main : fault_line (codes "a.c") [] NoMain ≡ ended (codes "a.c: no main")
no_main = refl

no_body : fault_line (codes "a.c") [] (NoBody place) ≡ ended (codes "a.c:3:14: no body")
unfolding digits
no_body = refl

proof_file_bad_byte : fault_line (codes "p.drv") [] (ProofFile place proof_file.BadByte) ≡ ended (codes "p.drv:3:14: bad byte")
unfolding digits
proof_file_bad_byte = refl

proof_file_unbalanced : fault_line (codes "p.drv") [] (ProofFile place proof_file.Unbalanced) ≡ ended (codes "p.drv:3:14: unbalanced")
unfolding digits
proof_file_unbalanced = refl

proof_file_unknown_form : fault_line (codes "p.drv") [] (ProofFile place proof_file.UnknownForm) ≡ ended (codes "p.drv:3:14: unknown form")
unfolding digits
proof_file_unknown_form = refl

proof_file_bad_number : fault_line (codes "p.drv") [] (ProofFile place proof_file.BadNumber) ≡ ended (codes "p.drv:3:14: bad number")
unfolding digits
proof_file_bad_number = refl

proof_file_too_deep : fault_line (codes "p.drv") [] (ProofFile place proof_file.TooDeep) ≡ ended (codes "p.drv:3:14: too deep")
unfolding digits
proof_file_too_deep = refl

proof_file_duplicate : fault_line (codes "p.drv") [] (ProofFile place proof_file.Duplicate) ≡ ended (codes "p.drv:3:14: duplicate")
unfolding digits
proof_file_duplicate = refl

proof_file_no_such_function : fault_line (codes "p.drv") [] (ProofFile place proof_file.NoSuchFunction) ≡ ended (codes "p.drv:3:14: no such function")
unfolding digits
proof_file_no_such_function = refl

no_entry : fault_line (codes "p.drv") (codes "main") NoEntry ≡ ended (codes "p.drv: no entry main")
no_entry = refl

order : fault_line (codes "p.drv") (codes "h") Order ≡ ended (codes "p.drv: order h")
order = refl

arg_count : fault_line [] [] (ArgCount 1 0) ≡ ended (codes "arguments: expected 1 given 0")
unfolding digits
arg_count = refl

arg_range : fault_line [] [] (ArgRange 7) ≡ ended (codes "argument 7 out of range")
unfolding digits
arg_range = refl

image_short : fault_line (codes "a.img") [] (Image image.Short) ≡ ended (codes "a.img: image short")
image_short = refl

image_magic : fault_line (codes "a.img") [] (Image image.Magic) ≡ ended (codes "a.img: image magic")
image_magic = refl

image_count : fault_line (codes "a.img") [] (Image (image.Count header.FunctionCount)) ≡ ended (codes "a.img: image count 3")
unfolding digits
image_count = refl

image_trailing : fault_line (codes "a.img") [] (Image image.Trailing) ≡ ended (codes "a.img: image trailing")
image_trailing = refl

image_entry : fault_line (codes "a.img") [] (Image image.Entry) ≡ ended (codes "a.img: image entry")
image_entry = refl

image_cost : fault_line (codes "a.img") [] (Image (image.Cost 3)) ≡ ended (codes "a.img: image cost 3")
unfolding digits
image_cost = refl

image_names : fault_line (codes "a.img") [] (Image image.Names) ≡ ended (codes "a.img: image names")
image_names = refl

image_params : fault_line (codes "a.img") [] (Image (image.Params 2)) ≡ ended (codes "a.img: image params 2")
unfolding digits
image_params = refl

elf_short : fault_line (codes "a.elf") [] (Elf elf.Short) ≡ ended (codes "a.elf: elf short")
elf_short = refl

elf_length : fault_line (codes "a.elf") [] (Elf (elf.Length 4100)) ≡ ended (codes "a.elf: elf length 4100")
unfolding digits
elf_length = refl

elf_field : fault_line (codes "a.elf") [] (Elf (elf.Field 4)) ≡ ended (codes "a.elf: elf field 4")
unfolding digits
elf_field = refl

elf_magic : fault_line (codes "a.elf") [] (Elf (elf.Image image.Magic)) ≡ ended (codes "a.elf: elf magic")
elf_magic = refl

elf_count : fault_line (codes "a.elf") [] (Elf (elf.Image (image.Count header.FunctionCount))) ≡ ended (codes "a.elf: elf count 3")
unfolding digits
elf_count = refl

elf_differs : fault_line (codes "a.elf") [] (Elf (elf.Differs 2)) ≡ ended (codes "a.elf: elf differs 2")
unfolding digits
elf_differs = refl

trap_overflow : fault_line [] [] (Trapped cause.Overflow 0x0001a0bc) ≡ ended (codes "trap overflow at 0x0001a0bc")
unfolding encode_with
trap_overflow = refl

trap_illegal : fault_line [] [] (Trapped cause.IllegalInstruction 0x0001a0bc) ≡ ended (codes "trap illegal at 0x0001a0bc")
unfolding encode_with
trap_illegal = refl

trap_fetch : fault_line [] [] (Trapped cause.FetchOutside 0x0001a0bc) ≡ ended (codes "trap fetch at 0x0001a0bc")
unfolding encode_with
trap_fetch = refl

trap_jump : fault_line [] [] (Trapped cause.JumpMisaligned 0x0001a0bc) ≡ ended (codes "trap jump at 0x0001a0bc")
unfolding encode_with
trap_jump = refl

trap_load_misaligned : fault_line [] [] (Trapped cause.LoadMisaligned 0x0001a0bc) ≡ ended (codes "trap load misaligned at 0x0001a0bc")
unfolding encode_with
trap_load_misaligned = refl

trap_load : fault_line [] [] (Trapped cause.LoadOutside 0x0001a0bc) ≡ ended (codes "trap load at 0x0001a0bc")
unfolding encode_with
trap_load = refl

trap_store_misaligned : fault_line [] [] (Trapped cause.StoreMisaligned 0x0001a0bc) ≡ ended (codes "trap store misaligned at 0x0001a0bc")
unfolding encode_with
trap_store_misaligned = refl

trap_store : fault_line [] [] (Trapped cause.StoreOutside 0x0001a0bc) ≡ ended (codes "trap store at 0x0001a0bc")
unfolding encode_with
trap_store = refl

trap_call : fault_line [] [] (Trapped cause.UnknownCall 0x0001a0bc) ≡ ended (codes "trap call at 0x0001a0bc")
unfolding encode_with
trap_call = refl

trap_break : fault_line [] [] (Trapped cause.Breakpoint 0x0001a0bc) ≡ ended (codes "trap break at 0x0001a0bc")
unfolding encode_with
trap_break = refl

step_limit : fault_line [] [] (StepLimit 1000) ≡ ended (codes "step limit 1000")
unfolding digits
step_limit = refl

no_bound_number : fault_line [] [] (NoBound (Number 340282366920938463463374607431768211455)) ≡ ended (codes "no bound: 340282366920938463463374607431768211455")
unfolding digits
no_bound_number = refl

no_bound_infinite : fault_line [] [] (NoBound Infinite) ≡ ended (codes "no bound: infinite")
no_bound_infinite = refl

no_bound_wide : fault_line [] [] (NoBound Wide) ≡ ended (codes "no bound: wide")
no_bound_wide = refl

stack_too_large : fault_line [] [] (StackTooLarge 268435457) ≡ ended (codes "stack too large: 268435457")
unfolding digits
stack_too_large = refl

no_memory : fault_line [] [] NoMemory ≡ ended (codes "out of memory")
no_memory = refl

shape_at_pre : fault_line (codes "p.drv") (codes "f") (Proof Pre Shape) ≡ ended (codes "p.drv: f pre: shape")
shape_at_pre = refl

mentions_at_post : fault_line (codes "p.drv") (codes "f") (Proof Post (Mentions (codes "(old x)"))) ≡ ended (codes "p.drv: f post: mentions (old x)")
mentions_at_post = refl

limit_at_pre : fault_line (codes "p.drv") (codes "f") (Proof Pre (proof_texts.Limit Terms)) ≡ ended (codes "p.drv: f pre: limit 2")
unfolding digits
limit_at_pre = refl

step_at_entry : (steps : Vec ℕ Global) → steps.items ≡ 1 ∷ 1 ∷ 0 ∷ [] → fault_line (codes "p.drv") (codes "f") (Proof (Entry (path steps)) (Step step_rules.Fact)) ≡ ended (codes "p.drv: f entry .1.1.0: step 12")
unfolding digits
step_at_entry steps e = rw e refl

shape_at_body : (root : Vec ℕ Global) → root.items ≡ [] → fault_line (codes "p.drv") (codes "f") (Proof (Body (path root)) Shape) ≡ ended (codes "p.drv: f body .: shape")
unfolding digits
shape_at_body root e = rw e refl

limit_in_body : (steps : Vec ℕ Global) → steps.items ≡ 1 ∷ 1 ∷ 0 ∷ [] → (root : Vec ℕ Global) → root.items ≡ [] → fault_line (codes "p.drv") (codes "f") (Proof (BodyCert (path steps) (path root)) (proof_texts.Limit Degree)) ≡ ended (codes "p.drv: f body .1.1.0 cert .: limit 3")
unfolding digits
limit_in_body steps e root f = rw (e, f) refl

cycle : (names : Vec (List ℕ) Global) → names.items ≡ codes "f" ∷ codes "g" ∷ [] → fault_line [] [] (Cycle names) ≡ ended (codes "recursion without derivation: f g")
cycle names e = rw e refl
