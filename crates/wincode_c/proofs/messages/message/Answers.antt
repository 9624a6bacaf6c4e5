use Rattle.std.proofs.Common.{rules}
use Rattle.wincode_c.proofs.messages.message.Goals as goal

pub returns-in-1 : goal.returns-in-1
returns-in-1 c = search (rules, c.in-1, c.format.ensures.ok)

pub returns-in-2 : goal.returns-in-2
returns-in-2 c = search (rules, c.in-2, c.from_str.ensures.ok)

pub returns-in-4 : goal.returns-in-4
returns-in-4 c = search (rules, c.in-4, c.from_str-in-4.ensures.ok)

pub returns-in-5 : goal.returns-in-5
returns-in-5 c = search (rules, c.in-5, c.utf8_message.ensures)

pub returns-in-6 : goal.returns-in-6
returns-in-6 c = search (rules, c.in-6, c.from_str-in-6.ensures.ok)

pub returns-in-7 : goal.returns-in-7
returns-in-7 c = search (rules, c.in-7, c.format-in-7.ensures.ok)

pub returns-in-8 : goal.returns-in-8
returns-in-8 c = search (rules, c.in-8, c.format-in-8.ensures.ok)

pub returns-in-9 : goal.returns-in-9
returns-in-9 c = search (rules, c.in-9, c.format-in-9.ensures.ok)

pub returns-in-10 : goal.returns-in-10
returns-in-10 c = search (rules, c.in-10, c.from_str-in-10.ensures.ok)

pub returns-in-11 : goal.returns-in-11
returns-in-11 c = search (rules, c.in-11, c.format-in-11.ensures.ok)

pub returns-in-13 : goal.returns-in-13
returns-in-13 c = search (rules, c.in-13, c.from_str-in-13.ensures.ok)

pub returns-in-14 : goal.returns-in-14
returns-in-14 c = search (rules, c.in-14, c.from_str-in-14.ensures.ok)

pub returns-in-15 : goal.returns-in-15
returns-in-15 c = search (rules, c.in-15, c.format-in-15.ensures.ok)

pub returns-in-16 : goal.returns-in-16
returns-in-16 c = search (rules, c.in-16, c.from_str-in-16.ensures.ok)

pub returns-in_default : goal.returns-in_default
returns-in_default c = search (rules, c.in_default)
