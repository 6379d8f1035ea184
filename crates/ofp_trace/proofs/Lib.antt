mod FewLookups
mod Noted
mod LiveWinners
