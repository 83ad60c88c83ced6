-- The codes of characters, each named as in C11 where C11 has a name for it (5.2.1, 5.2.2, 6.4.4.4).
use Rattle.std.specs.Prelude.{ℕ}

abbrev pub alert : ℕ
alert = 7

abbrev pub backspace : ℕ
backspace = 8

abbrev pub horizontal_tab : ℕ
horizontal_tab = 9

abbrev pub new_line : ℕ
new_line = 10

abbrev pub vertical_tab : ℕ
vertical_tab = 11

abbrev pub form_feed : ℕ
form_feed = 12

abbrev pub carriage_return : ℕ
carriage_return = 13

abbrev pub space : ℕ
space = 32

-- `"`
abbrev pub double_quote : ℕ
double_quote = 34

-- `#`
abbrev pub number_sign : ℕ
number_sign = 35

-- `$`
abbrev pub dollar_sign : ℕ
dollar_sign = 36

-- `'`
abbrev pub single_quote : ℕ
single_quote = 39

-- `(`
abbrev pub left_parenthesis : ℕ
left_parenthesis = 40

-- `)`
abbrev pub right_parenthesis : ℕ
right_parenthesis = 41

-- `*`
abbrev pub asterisk : ℕ
asterisk = 42

-- `,`
abbrev pub comma : ℕ
comma = 44

-- `-`
abbrev pub hyphen : ℕ
hyphen = 45

-- `.`
abbrev pub period : ℕ
period = 46

-- `/`
abbrev pub slash : ℕ
slash = 47

-- `0`
abbrev pub digit_zero : ℕ
digit_zero = 48

-- `;`
abbrev pub semicolon : ℕ
semicolon = 59

-- `=`
abbrev pub equals_sign : ℕ
equals_sign = 61

-- `?`
abbrev pub question_mark : ℕ
question_mark = 63

-- `\`
abbrev pub backslash : ℕ
backslash = 92

-- ---- letters

abbrev pub uppercase_a : ℕ
uppercase_a = 65

abbrev pub uppercase_f : ℕ
uppercase_f = 70

abbrev pub uppercase_u : ℕ
uppercase_u = 85

abbrev pub uppercase_x : ℕ
uppercase_x = 88

abbrev pub lowercase_a : ℕ
lowercase_a = 97

abbrev pub lowercase_b : ℕ
lowercase_b = 98

abbrev pub lowercase_f : ℕ
lowercase_f = 102

abbrev pub lowercase_n : ℕ
lowercase_n = 110

abbrev pub lowercase_r : ℕ
lowercase_r = 114

abbrev pub lowercase_t : ℕ
lowercase_t = 116

abbrev pub lowercase_u : ℕ
lowercase_u = 117

abbrev pub lowercase_v : ℕ
lowercase_v = 118

abbrev pub lowercase_x : ℕ
lowercase_x = 120
