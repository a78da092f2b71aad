use Rattle.std.proofs.Common.{sym}
use Rattle.mvt_fault.proofs.reading.causes.wire_code.Goals as goal

pub returns-in-101 : goal.returns-in-101
returns-in-101 c = sym c.in-101.is

pub returns-in-102 : goal.returns-in-102
returns-in-102 c = sym c.in-102.is

pub returns-in-103 : goal.returns-in-103
returns-in-103 c = sym c.in-103.is

pub returns-in-104 : goal.returns-in-104
returns-in-104 c = sym c.in-104.is

pub returns-in-105 : goal.returns-in-105
returns-in-105 c = sym c.in-105.is

pub returns-in-106 : goal.returns-in-106
returns-in-106 c = sym c.in-106.is

pub returns-in-107 : goal.returns-in-107
returns-in-107 c = sym c.in-107.is

pub returns-in-108 : goal.returns-in-108
returns-in-108 c = sym c.in-108.is

pub returns-in-109 : goal.returns-in-109
returns-in-109 c = sym c.in-109.is

pub returns-in-110 : goal.returns-in-110
returns-in-110 c = sym c.in-110.is

pub returns-in-111 : goal.returns-in-111
returns-in-111 c = sym c.in-111.is
